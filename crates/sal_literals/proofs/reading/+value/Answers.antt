use Rattle.std.proofs.Common.{◌≡◌, ◌-◌, false, Bool, Some, List, length, sym, ap, ◌∙◌, arith}
use Rattle.sal_value.specs.declared.value.Value.{Value}
use Rattle.sal_value.specs.declared.value.Value.TheVariants as v
use Rattle.sal_literals.specs.Reading.{items_at, is_closed, value_at}
use Rattle.sal_literals.specs.code.Reads.{names_by}
use Rattle.sal_literals.proofs.Items.{arrayed, too_deep, empty_array, array_begins, goes_on}
use Rattle.sal_literals.proofs.reading.+value.Goals as goal

pub returns-then-depth-eq0 : goal.returns-then-depth-eq0
returns-then-depth-eq0 t c = too_deep (names_by c.args.names) c.args.depth c.args.bytes.now c.in-Some.inside.now c.if-depth-eq0.true c.in-Some.ensures

pub returns-in-Some-after_close : goal.returns-in-Some-after_close
returns-in-Some-after_close t c =
    empty_array (names_by c.args.names) c.args.depth c.args.bytes.now c.in-Some.inside.now c.in-Some-after_close.rest.now (omega arith) c.in-Some.ensures c.in-Some-after_close.ensures
    ∙ ap (λ (ws : List Value). Some (v.Array ws, c.in-Some-after_close.rest.now)) (sym c.new.ensures)

pub loop-init : goal.loop-init
loop-init t c =
    let inside = c.in-Some.inside.now in
    let open' : is_closed c.in-Some.inside.now ≡ false = c.in_default-after_close.ensures in
    ap (λ (front : List Value). arrayed front (items_at (value_at (names_by c.args.names) (c.args.depth - 1)) (length inside - 0) inside)) c.new-items.ensures
    ∙ array_begins (names_by c.args.names) c.args.depth c.args.bytes.now inside (length inside - 0) (omega arith) c.in-Some.ensures open' (omega arith)

pub loop-preserved : goal.loop-preserved
loop-preserved t c =
    rw c.in_ok-push.ensures.ok (goes_on (value_at (names_by c.args.names) (c.args.depth - 1)) c.loop.items (length c.in-Some.inside.now) c.loop.counter c.loop.rest.now c.in_ok-item.item
    c.in_ok-item.after.now c.in_ok-ends.after.now (value_at (names_by c.args.names) c.args.depth c.args.bytes.now) c.loop-test.true c.in_ok-item.ensures
    (c.in_ok-ends.ensures ∙ ap (λ (b : Bool). Some (b, c.in_ok-ends.after.now)) c.if-ends.false) c.loop.invariant)
