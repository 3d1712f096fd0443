use Rattle.std.proofs.Common.{◌≡◌}
use Rattle.sal_handler.specs.Calls.{names_from}
use Rattle.sal_order.proofs.outcome.taken_names.Given as goal

abbrev pub invariant-loop-i : goal.invariant-loop-i
invariant-loop-i l = l.names ≡ names_from 0 l.first l.i
