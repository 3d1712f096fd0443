use Rattle.std.proofs.Common.{◌≡◌, ◌-◌, drop}
use Rattle.sal_value.specs.Spelling.{room_after}
use Rattle.sal_value.proofs.Rooms.{rooms}
use Rattle.sal_value.proofs.value.Value.+room_after.Given as goal

abbrev pub invariant-loop-item : goal.invariant-loop-item
invariant-loop-item l = rooms (l.fn.depth - 1) (drop l.item-index l.item-items) l.left ≡ room_after l.fn.self l.fn.depth l.fn.room
