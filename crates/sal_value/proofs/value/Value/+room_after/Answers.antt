use Rattle.std.proofs.Common.{sym, ◌∙◌, arith}
use Rattle.sal_value.proofs.Rooms.{array_room, no_room}
use Rattle.sal_value.proofs.value.Value.+room_after.Goals as goal

pub returns-in_err-left-in-Array : goal.returns-in_err-left-in-Array
returns-in_err-left-in-Array t c =
    c.from_residual-in_err-left-in-Array.ensures
    ∙ no_room c.args.self.now c.in-Array.items c.args.depth c.args.room c.in-Array.is (omega arith) (omega arith) (sym c.room_left-in-Array.ensures ∙ c.in_err-left-in-Array.was)

pub loop-item-init : goal.loop-item-init
loop-item-init t c =
    array_room c.args.self.now c.in-Array.items c.as_slice-item-items.result.now c.args.depth c.args.room c.in_ok-left-in-Array.left
    c.in-Array.is c.as_slice-item-items.ensures (omega arith) (omega arith) (sym c.room_left-in-Array.ensures ∙ c.in_ok-left-in-Array.was)
