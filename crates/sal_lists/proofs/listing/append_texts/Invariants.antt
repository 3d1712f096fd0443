use Rattle.std.proofs.Common.{◌≡◌, ◌+◌, ◌≤◌, ◌++◌, length, map}
use Rattle.std.specs.Vec.{vec_len, vec_capacity}
use Rattle.std.specs.Vec.Iter.{into_iter_items, into_iter_len}
use Rattle.sal_lists.proofs.listing.append_texts.Given as goal

abbrev pub invariant-loop-text : goal.invariant-loop-text
invariant-loop-text l =
    (l.output.items ++ map (λ text. (l.node, text)) (into_iter_items l.text-iterator) ≡ l.fn.output.items ++ map (λ text. (l.node, text)) l.fn.texts)
    × (into_iter_len l.text-iterator ≡ length (into_iter_items l.text-iterator))
    × (vec_len l.output + length (into_iter_items l.text-iterator) ≤ vec_capacity l.output)
