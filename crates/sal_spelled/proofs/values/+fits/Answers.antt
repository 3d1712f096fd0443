use Rattle.std.proofs.Common.{◌-◌, sym, ◌∙◌, arith}
use Rattle.sal_value.specs.Spelling.{fits}
use Rattle.sal_value.proofs.Loops.{all_stops, all_ends}
use Rattle.sal_spelled.proofs.Fitting.{array_fits}
use Rattle.sal_spelled.proofs.values.+fits.Goals as goal

pub returns-then-not-fits : goal.returns-then-not-fits
returns-then-not-fits t c =
    let d = c.args.depth in
    array_fits c.args.value.now c.in-Array.items c.as_slice-item-items.result.now d _ c.in-Array.is c.as_slice-item-items.ensures (omega arith) (omega arith)
    (all_stops (λ item. fits item (d - 1)) c.as_slice-item-items.result.now c.loop-item.item-index c.item-item.result c.loop-item-test.true c.item-item.is (sym c.fits.ensures ∙ c.if-not-fits.true) c.loop-item.invariant)

pub returns-after-loop-item : goal.returns-after-loop-item
returns-after-loop-item t c =
    let d = c.args.depth in
    array_fits c.args.value.now c.in-Array.items c.as_slice-item-items.result.now d _ c.in-Array.is c.as_slice-item-items.ensures (omega arith) (omega arith)
    (all_ends (λ item. fits item (d - 1)) c.as_slice-item-items.result.now c.loop-item.item-index c.loop-item-test.false c.loop-item.invariant)
