use Rattle.std.proofs.Common.{◌≡◌, length}
use Rattle.sal_source.specs.Step.{put_creations}
use Rattle.sal_source.proofs.creations.Creations.put_all.Given as goal

abbrev pub invariant-loop-creation : goal.invariant-loop-creation
invariant-loop-creation l = put_creations l.maker l.left l.self ≡ put_creations l.maker l.fn.creations l.fn.self

abbrev pub decreases-loop-creation : goal.decreases-loop-creation
decreases-loop-creation l = length l.left
