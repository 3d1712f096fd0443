use Rattle.std.proofs.Common.{sym, ◌∙◌}
use Rattle.sal_source.specs.Posts.{holds_universal}
use Rattle.sal_source.proofs.Universal.{array_holds}
use Rattle.sal_value.proofs.Loops.{all_stops, all_ends}
use Rattle.sal_source.proofs.posts.+holds_universal.Goals as goal

pub returns-then-not-holds_universal : goal.returns-then-not-holds_universal
returns-then-not-holds_universal t c =
    array_holds c.args.value.now c.in-Array.items c.as_slice-item-items.result.now _ c.in-Array.is c.as_slice-item-items.ensures
    (all_stops holds_universal c.as_slice-item-items.result.now c.loop-item.item-index c.item-item.result c.loop-item-test.true c.item-item.is (sym c.holds_universal.ensures ∙ c.if-not-holds_universal.true) c.loop-item.invariant)

pub returns-after-loop-item : goal.returns-after-loop-item
returns-after-loop-item t c =
    array_holds c.args.value.now c.in-Array.items c.as_slice-item-items.result.now _ c.in-Array.is c.as_slice-item-items.ensures
    (all_ends holds_universal c.as_slice-item-items.result.now c.loop-item.item-index c.loop-item-test.false c.loop-item.invariant)
