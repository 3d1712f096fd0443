use Rattle.std.proofs.Common.{◌≡◌, drop}
use Rattle.sal_handler.specs.Messages as spec
use Rattle.sal_send.proofs.after.add_before_joins.Given as goal

abbrev pub invariant-loop-join : goal.invariant-loop-join
invariant-loop-join l = spec.add_new l.serials (spec.serials_before_joins (drop l.join-index l.within)) ≡ spec.add_new l.fn.serials (spec.serials_before_joins l.within)
