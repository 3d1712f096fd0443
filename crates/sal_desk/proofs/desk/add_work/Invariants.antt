use Rattle.std.proofs.Common.{◌≡◌, ◌++◌}
use Rattle.sal_desk.proofs.desk.add_work.Given as goal

abbrev pub invariant-loop-item : goal.invariant-loop-item
invariant-loop-item l = l.work.items ≡ l.fn.work.items ++ l.yielded
