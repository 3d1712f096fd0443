use Rattle.std.proofs.Common.{◌-◌, List, ap, ◌∙◌, arith}
use Rattle.std.proofs.lemmas.Result.{err_from_is_err_and}
use Rattle.sal_value.specs.declared.value.Value.{Value}
use Rattle.sal_value.specs.Decoding.{items_at, value_at}
use Rattle.sal_value.proofs.Items.{arrayed, flat_reads, array_begins, count_fails, goes_on}
use Rattle.sal_value.proofs.decode.+value.Goals as goal

pub returns-then-depth-eq0 : goal.returns-then-depth-eq0
returns-then-depth-eq0 t c = flat_reads c.args.depth c.args.bytes.now c.in-Some.behind.now c.if-depth-eq0.true c.in-Some.ensures

pub returns-in_err-count : goal.returns-in_err-count
returns-in_err-count t c =
    let p = err_from_is_err_and c.from_residual.result c.from_residual.ensures.1 in
    rw (p.1, p.2) (count_fails c.in_err-count.field-0.0 c.args.depth c.args.bytes.now c.in-Some.behind.now c.in-Some.ensures (omega arith) c.in_err-count.ensures)

pub loop-init : goal.loop-init
loop-init t c =
    let count = c.in_ok-count.count in
    let rest = c.in_ok-count.rest.now in
    ap (λ (front : List Value). arrayed front (items_at (value_at (c.args.depth - 1)) (count - 0) rest)) c.new-items.ensures
    ∙ array_begins c.args.depth c.args.bytes.now c.in-Some.behind.now count (count - 0) rest c.in-Some.ensures (omega arith) (omega arith) c.in_ok-count.ensures

pub loop-preserved : goal.loop-preserved
loop-preserved t c =
    rw c.in_ok-push.ensures.ok (goes_on (value_at (c.args.depth - 1)) c.loop.items c.in_ok-count.count c.loop.counter c.loop.rest.now c.in_ok-item.item c.in_ok-item.after.now
    (value_at c.args.depth c.args.bytes.now) c.loop-test.true c.in_ok-item.ensures c.loop.invariant)
