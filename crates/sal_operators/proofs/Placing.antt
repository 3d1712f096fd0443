-- An item is taken out of an array, and the new one is put into its place.
use Rattle.std.proofs.Common.{◌≡◌, ℕ, ℤ, List, ◌∷◌, length, slice_get, slice_set, Some, Ok, sym, ap, ◌∙◌}
use Rattle.std.proofs.lemmas.List.{set-set}
use Rattle.sal_value.specs.declared.value.Value.{Value}
use Rattle.sal_value.specs.declared.value.Value.TheVariants.{Array, Null}
use Rattle.sal_handler.specs.Evaluation.{and_then}
use Rattle.sal_handler.specs.Values.{checked_index, value_or_null, item_at, items_of, put_item}

pub put_at : (old : Value) (index : ℤ) (rest : List ℤ) (new item v : Value) (at : ℕ) → checked_index index (length (items_of old)) ≡ Ok at → slice_get (items_of old) at ≡ Some item → put_item item rest new ≡ Ok v → put_item old (index ∷ rest) new ≡ Ok (Array (slice_set (slice_set (items_of old) at Null) at v))
unfolding put_item
put_at old index rest new item v at e f g =
    ap (λ c. and_then c (λ i. and_then (put_item (item_at (items_of old) i) rest new) (λ w. Ok (Array (slice_set (items_of old) i w))))) e
    ∙ ap (λ o. and_then (put_item (value_or_null o) rest new) (λ w. Ok (Array (slice_set (items_of old) at w)))) f
    ∙ ap (λ p. and_then p (λ w. Ok (Array (slice_set (items_of old) at w)))) g
    ∙ ap (λ l. Ok (Array l)) (sym (set-set (items_of old) at Null v))
