use Rattle.std.proofs.Common.{◌≡◌, ◌++◌}
use Rattle.sal_queues.proofs.queues.copies_of.Given as goal

abbrev pub invariant-loop-item : goal.invariant-loop-item
invariant-loop-item g l = l.copies ++ l.item-iterator ≡ l.list
