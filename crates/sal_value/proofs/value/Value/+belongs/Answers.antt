use Rattle.std.proofs.Common.{◌-◌, sym, ◌∙◌, arith}
use Rattle.sal_value.specs.Membership.{belongs_to}
use Rattle.sal_value.proofs.Equations.{array_belongs}
use Rattle.sal_value.proofs.Loops.{all_stops, all_ends}
use Rattle.sal_value.proofs.value.Value.+belongs.Goals as goal

pub returns-then-not-belongs : goal.returns-then-not-belongs
returns-then-not-belongs t c =
    let base = c.args.sort.base in
    let dims = c.args.sort.dims in
    array_belongs c.args.self.now c.in-Array.items c.as_slice-item-items.result.now base dims _ c.in-Array.is c.as_slice-item-items.ensures (omega arith)
    (all_stops (λ item. belongs_to item base (dims - 1)) c.as_slice-item-items.result.now c.loop-item.item-index c.item-item.result c.loop-item-test.true c.item-item.is (sym c.belongs.ensures ∙ c.if-not-belongs.true) c.loop-item.invariant)

pub returns-after-loop-item : goal.returns-after-loop-item
returns-after-loop-item t c =
    let base = c.args.sort.base in
    let dims = c.args.sort.dims in
    array_belongs c.args.self.now c.in-Array.items c.as_slice-item-items.result.now base dims _ c.in-Array.is c.as_slice-item-items.ensures (omega arith)
    (all_ends (λ item. belongs_to item base (dims - 1)) c.as_slice-item-items.result.now c.loop-item.item-index c.loop-item-test.false c.loop-item.invariant)
