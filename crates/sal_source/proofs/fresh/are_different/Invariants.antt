use Rattle.std.proofs.Common.{◌≡◌, length}
use Rattle.sal_source.specs.Step.{are_different}
use Rattle.sal_source.proofs.fresh.are_different.Given as goal

abbrev pub invariant-loop-left : goal.invariant-loop-left
invariant-loop-left l = are_different l.left ≡ are_different l.fn.names

abbrev pub decreases-loop-left : goal.decreases-loop-left
decreases-loop-left l = length l.left
