use Rattle.std.proofs.Common.{◌++◌, List, ℕ, ap, ◌∙◌, rules, arith}
use Rattle.std.specs.Int.{w16, to_be_bytes}
use Rattle.std.specs.List.{flat_map}
use Rattle.sal_value.specs.declared.value.Value.TheViews.{the_lemmas}
use Rattle.sal_value.specs.Spelling.{spelling}
use Rattle.sal_value.proofs.Writing.{items_begin, item_fits}
use Rattle.sal_value.proofs.value.Value.+put.Goals as goal

pub loop-item-init : goal.loop-item-init
loop-item-init t c =
    let old = c.args.out.now in
    let xs = c.as_slice-item-items.result.now in
    ap (λ (z : List ℕ). z ++ flat_map spelling xs) (c.in_ok-push_slice-in-Array.ensures.ok ∙ ap (λ (z : List ℕ). z ++ c.to_be_bytes-in-Array.result) c.in_ok-push-in-Array.ensures.ok)
    ∙ items_begin old c.args.self.now c.in-Array.items xs c.to_be_bytes-in-Array.result c.in-Array.is c.as_slice-item-items.ensures (c.to_be_bytes-in-Array.ensures ∙ ap (to_be_bytes w16) c.len.ensures)

pub put-requires-in-loop-item : goal.put-requires-in-loop-item
put-requires-in-loop-item t c = (
  first_of (search rules, search (rules, the_lemmas), grind (arith, the_lemmas)),
  item_fits c.args.self.now c.in-Array.items c.as_slice-item-items.result.now c.loop-item.item-index c.item-item.result c.in-Array.is c.as_slice-item-items.ensures c.loop-item-test.true c.item-item.is c.requires,
)
