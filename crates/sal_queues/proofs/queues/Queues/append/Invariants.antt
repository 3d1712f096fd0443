use Rattle.std.proofs.Common.{◌≡◌, length}
use Rattle.std.specs.FinMap as fm
use Rattle.sal_queues.specs.Queues.{filled, joined, HasRoomFor}
use Rattle.sal_queues.proofs.queues.Queues.append.Given as goal

abbrev pub invariant-loop-name : goal.invariant-loop-name
invariant-loop-name g l = HasRoomFor l.self l.more × (joined l.more (filled l.self) ≡ joined l.fn.more (filled l.fn.self))

abbrev pub decreases-loop-name : goal.decreases-loop-name
decreases-loop-name g l = length (fm.entries l.more)
