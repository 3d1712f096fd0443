-- Slots of joins, and values among arguments.
use Rattle.std.proofs.Common.{◌≡◌, ℕ, zero, suc, ◌+◌, ◌<◌, true, false, List, [], ◌∷◌, ◌++◌, take, length, get_or, Option, Some, None, refl, sym, ap, ◌∙◌, arith, true≢false}
use Rattle.std.proofs.lemmas.List.{take_more}
use Rattle.std.proofs.lemmas.List.Elements.{filter_map-append}
use Rattle.std.specs.Option.{option_to_list}
use Rattle.std.specs.Prelude.{slice_get, slice_set, filter_map}
use Rattle.sal_value.specs.declared.value.Value.{Value}
use Rattle.sal_mail.specs.declared.message.Piece.{Piece}
use Rattle.sal_mail.specs.Message.{known_value, known_values, slot_values, fill_slot, is_empty_slot}

pub present_push : (ps : List (Option Value)) (p : Option Value) → slot_values (ps ++ p ∷ []) ≡ slot_values ps ++ option_to_list p
present_push [] None = refl
present_push [] (Some v) = refl
present_push (None ∷ ps) p = present_push ps p
present_push (Some v ∷ ps) p = ap (λ l. v ∷ l) (present_push ps p)

pub fill_set : (at : ℕ) (v : Value) (ps : List (Option Value)) → is_empty_slot (slice_get ps at) ≡ true → slice_set ps at (Some v) ≡ fill_slot at v ps
fill_set at v [] e = absurd (true≢false (sym e))
fill_set zero v (None ∷ ps) e = refl
fill_set zero v (Some x ∷ ps) e = absurd (true≢false (sym e))
fill_set (suc at) v (p ∷ ps) e = ap (λ l. p ∷ l) (fill_set at v ps e)

pub fill_same : (at : ℕ) (v : Value) (ps : List (Option Value)) → is_empty_slot (slice_get ps at) ≡ false → ps ≡ fill_slot at v ps
fill_same at v [] e = refl
fill_same zero v (None ∷ ps) e = absurd (true≢false e)
fill_same zero v (Some x ∷ ps) e = refl
fill_same (suc at) v (p ∷ ps) e = ap (λ l. p ∷ l) (fill_same at v ps e)

pub open_within : (at : ℕ) (ps : List (Option Value)) → is_empty_slot (slice_get ps at) ≡ true → at < length ps
open_within at [] e = absurd (true≢false (sym e))
open_within zero (p ∷ ps) e = omega arith
open_within (suc at) (p ∷ ps) e = let r : at < length ps = open_within at ps e in omega arith

pub known_more : (ps : List Piece) (i : ℕ) (p : Piece) → i < length ps → p ≡ get_or ps i p → known_values (take (i + 1) ps) ≡ known_values (take i ps) ++ filter_map known_value (p ∷ [])
known_more ps i p lt e =
    ap (filter_map known_value) (take_more ps i p lt)
    ∙ filter_map-append known_value (take i ps) (get_or ps i p ∷ [])
    ∙ ap (λ x. filter_map known_value (take i ps) ++ filter_map known_value (x ∷ [])) (sym e)
