-- Printing one after the other.
use Rattle.std.proofs.Common.{◌≡◌, ℕ, ◌+◌, ◌<◌, List, [], ◌∷◌, ◌++◌, drop, get_or, length, refl, sym, ap, ◌∙◌, append_assoc}
use Rattle.std.specs.List.{flat_map}
use Rattle.std.proofs.lemmas.List.{at_drop_more}
use Rattle.sal_value.specs.declared.value.Value.{Value}
use Rattle.sal_value.specs.declared.value.Value.TheVariants as v
use Rattle.sal_literals.specs.Texts.{escape, quoted_text, value_text}
use Rattle.sal_literals.proofs.Equations.{others_text, items_text, text_array}

pub in_quotes : (old text inside : List ℕ) → inside ≡ flat_map escape text → ((old ++ 34 ∷ []) ++ inside) ++ 34 ∷ [] ≡ old ++ quoted_text text
unfolding quoted_text
in_quotes old text inside e =
    append_assoc (old ++ 34 ∷ []) inside (34 ∷ []) ∙ append_assoc old (34 ∷ []) (inside ++ 34 ∷ []) ∙ ap (λ (z : List ℕ). old ++ 34 ∷ (z ++ 34 ∷ [])) e

-- a byte and what stands after it
pub tagged : (old text : List ℕ) (tag : ℕ) → (old ++ tag ∷ []) ++ text ≡ old ++ tag ∷ text
tagged old text tag = append_assoc old (tag ∷ []) text

-- the items that are left, of which the first stands after these bytes
abbrev pub items_after : List ℕ → List Value → List ℕ
items_after lead [] = []
items_after lead (w ∷ ws) = lead ++ (value_text w ++ others_text ws)

after_nothing : (ws : List Value) → items_after [] ws ≡ items_text ws
after_nothing [] = refl
after_nothing (w ∷ ws) = refl

after_comma : (ws : List Value) → items_after (44 ∷ []) ws ≡ others_text ws
after_comma [] = refl
after_comma (w ∷ ws) = refl

-- what is printed of an array, once these items are left
abbrev pub with_items : List ℕ → List ℕ → List Value → List ℕ
with_items out lead ws = (out ++ items_after lead ws) ++ 93 ∷ []

pub items_begin : (old out : List ℕ) (w : Value) (ws xs : List Value) → w ≡ v.Array ws → xs ≡ ws → out ≡ old ++ 91 ∷ [] → with_items out [] xs ≡ old ++ value_text w
items_begin old out w ws xs is same e =
    ap (λ (z : List ℕ). (z ++ items_after [] xs) ++ 93 ∷ []) e
    ∙ ap (λ (ys : List Value). ((old ++ 91 ∷ []) ++ items_after [] ys) ++ 93 ∷ []) same
    ∙ ap (λ (z : List ℕ). ((old ++ 91 ∷ []) ++ z) ++ 93 ∷ []) (after_nothing ws)
    ∙ append_assoc (old ++ 91 ∷ []) (items_text ws) (93 ∷ []) ∙ append_assoc old (91 ∷ []) (items_text ws ++ 93 ∷ [])
    ∙ ap (λ (z : List ℕ). old ++ z) (sym (ap value_text is ∙ text_array ws))

pub items_go_on : (out mid new lead : List ℕ) (xs : List Value) (i : ℕ) (x : Value) (all : List ℕ) → i < length xs → x ≡ get_or xs i x
    → mid ≡ out ++ lead → new ≡ mid ++ value_text x → with_items out lead (drop i xs) ≡ all → with_items new (44 ∷ []) (drop (i + 1) xs) ≡ all
items_go_on out mid new lead xs i x all lt at e f so_far =
    let ys : List Value = drop (i + 1) xs in
    let left : drop i xs ≡ x ∷ ys = at_drop_more (λ (zs : List Value). zs) xs i x lt ∙ ap (λ (z : Value). z ∷ ys) (sym at) in
    ap (λ (z : List ℕ). (new ++ z) ++ 93 ∷ []) (after_comma ys)
    ∙ ap (λ (z : List ℕ). (z ++ others_text ys) ++ 93 ∷ []) (f ∙ ap (λ (z : List ℕ). z ++ value_text x) e)
    ∙ ap (λ (z : List ℕ). z ++ 93 ∷ []) (append_assoc (out ++ lead) (value_text x) (others_text ys) ∙ append_assoc out lead (value_text x ++ others_text ys))
    ∙ sym (ap (λ (zs : List Value). with_items out lead zs) left) ∙ so_far
