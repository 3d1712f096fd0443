use Rattle.std.proofs.Common.{◌≡◌, ◌++◌, drop}
use Rattle.std.specs.List.{flat_map}
use Rattle.sal_document.specs.Documents.{line_text}
use Rattle.sal_document.proofs.printing.put_items.Given as goal

abbrev pub invariant-loop-item : goal.invariant-loop-item
invariant-loop-item g l =
    l.out ++ flat_map (λ x. line_text (g.T.Shows.words l.program x)) (drop l.item-index l.items) ≡ l.fn.out ++ flat_map (λ x. line_text (g.T.Shows.words l.program x)) l.items
