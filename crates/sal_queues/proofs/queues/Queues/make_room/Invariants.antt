use Rattle.std.proofs.Common.{◌≡◌}
use Rattle.sal_queues.specs.Queues.{filled}
use Rattle.sal_queues.proofs.Rooms.{IsRoomButFor}
use Rattle.sal_queues.proofs.queues.Queues.make_room.Given as goal

abbrev pub invariant-loop-name : goal.invariant-loop-name
invariant-loop-name g l = (filled l.self ≡ filled l.fn.self) × IsRoomButFor l.name-iterator l.initial.name-iterator l.self
