-- The definitions on values, one equation for each kind of value.
use Rattle.std.proofs.Common.{◌≡◌, ℕ, ℤ, suc, ◌-◌, ◌<◌, Bool, true, false, ◌&&◌, List, [], ◌∷◌, ◌++◌, length, map, refl, sym, ap, ◌∙◌, arith}
use Rattle.std.specs.Prelude.{nat_le, if◌then◌else◌}
use Rattle.std.specs.Int.{w16, w32, to_be_bytes, cast_unsigned}
use Rattle.std.specs.List.{list_all, concat, flat_map}
use Rattle.std.proofs.lemmas.List.{length-map}
use Rattle.sal_value.specs.declared.name.Name.{Name}
use Rattle.sal_value.specs.declared.value.Base.{Base}
use Rattle.sal_value.specs.declared.value.Value.{Value, out-Value, roll-Value, map-Value, fold-roll-Value, fold_out-Value}
use Rattle.sal_value.specs.declared.value.Value.TheVariants as v
use Rattle.sal_value.specs.declared.value.Value.TheOpen.{Value-F}
use Rattle.sal_value.specs.Spelling.{text_bytes, name_spelling, name_is_spelled, spelling_step, spelling, fits_step, fits}
use Rattle.sal_value.specs.Membership.{belongs_alone, belongs_step, belongs_to}

all_of_map : {A B : Type 0} (p : B → Bool) (f : A → B) (xs : List A) → list_all p (map f xs) ≡ list_all (λ x. p (f x)) xs
all_of_map p f [] = refl
all_of_map p f (x ∷ xs) = ap (λ b. p (f x) && b) (all_of_map p f xs)

concat_of_map : {A : Type 0} (f : A → List ℕ) (xs : List A) → concat (map f xs) ≡ flat_map f xs
concat_of_map f [] = refl
concat_of_map f (x ∷ xs) = ap (λ (r : List ℕ). f x ++ r) (concat_of_map f xs)

-- ---- membership

belongs_array_suc : (items : List Value) (b : Base) (dims : ℕ) → belongs_to (v.Array items) b (suc dims) ≡ list_all (λ item. belongs_to item b dims) items
unfolding belongs_to
belongs_array_suc items b dims =
    ap (λ d. belongs_to d b (suc dims)) (sym (v.rolls-Array items))
    ∙ ap (λ f. f b (suc dims)) (fold-roll-Value (Base → ℕ → Bool) belongs_step (Value-F.Array items))
    ∙ all_of_map (λ g. g b dims) belongs_to items

pub belongs_array : (items : List Value) (b : Base) (dims : ℕ) → 0 < dims → belongs_to (v.Array items) b dims ≡ list_all (λ item. belongs_to item b (dims - 1)) items
belongs_array items b dims low =
    let up : dims ≡ suc (dims - 1) = omega arith in
    ap (belongs_to (v.Array items) b) up ∙ belongs_array_suc items b (dims - 1)

alone_map : {A B : Type 0} (f : A → B) (l : Value-F A) (b : Base) → belongs_alone (map-Value A B f l) b ≡ belongs_alone l b
alone_map f (Value-F.Int n) b = refl
alone_map f (Value-F.Bool t) b = refl
alone_map f (Value-F.Str t) b = refl
alone_map f (Value-F.Array items) b = refl
alone_map f (Value-F.Ref n) b = refl
alone_map f Value-F.Null b = refl

belongs_zero_at : (w : Value) (b : Base) → belongs_to w b 0 ≡ belongs_alone (out-Value w) b
unfolding belongs_to
belongs_zero_at w b = ap (λ f. f b 0) (fold_out-Value (Base → ℕ → Bool) belongs_step w) ∙ alone_map belongs_to (out-Value w) b

pub belongs_zero : (w : Value) (b : Base) (dims : ℕ) → dims ≡ 0 → belongs_to w b dims ≡ belongs_alone (out-Value w) b
belongs_zero w b dims e = ap (belongs_to w b) e ∙ belongs_zero_at w b

-- what was found of an array's items answers for the array
pub array_belongs : (w : Value) (items xs : List Value) (b : Base) (dims : ℕ) (r : Bool) → w ≡ v.Array items → xs ≡ items → 0 < dims → list_all (λ item. belongs_to item b (dims - 1)) xs ≡ r → r ≡ belongs_to w b dims
array_belongs w items xs b dims r is same low found =
    sym (ap (λ y. belongs_to y b dims) is ∙ belongs_array items b dims low ∙ ap (λ (ys : List Value). list_all (λ item. belongs_to item b (dims - 1)) ys) (sym same) ∙ found)

-- ---- spelling and limits

spelling_roll : (l : Value-F Value) → spelling (roll-Value l) ≡ spelling_step (map-Value Value (List ℕ) spelling l)
unfolding spelling
spelling_roll l = fold-roll-Value (List ℕ) spelling_step l

fits_roll : (l : Value-F Value) (d : ℕ) → fits (roll-Value l) d ≡ fits_step (map-Value Value (ℕ → Bool) fits l) d
unfolding fits
fits_roll l d = ap (λ f. f d) (fold-roll-Value (ℕ → Bool) fits_step l)

pub spelling_null : spelling v.Null ≡ 0 ∷ []
spelling_null = ap spelling (sym v.rolls-Null) ∙ spelling_roll Value-F.Null

pub spelling_int : (n : ℤ) → spelling (v.Int n) ≡ 1 ∷ to_be_bytes w32 (cast_unsigned w32 n)
spelling_int n = ap spelling (sym (v.rolls-Int n)) ∙ spelling_roll (Value-F.Int n)

pub spelling_bool : (b : Bool) → spelling (v.Bool b) ≡ 2 ∷ (if b then 1 else 0) ∷ []
spelling_bool b = ap spelling (sym (v.rolls-Bool b)) ∙ spelling_roll (Value-F.Bool b)

pub spelling_str : (t : List ℕ) → spelling (v.Str t) ≡ 3 ∷ text_bytes t
spelling_str t = ap spelling (sym (v.rolls-Str t)) ∙ spelling_roll (Value-F.Str t)

pub spelling_ref : (n : Name) → spelling (v.Ref n) ≡ 5 ∷ name_spelling n
spelling_ref n = ap spelling (sym (v.rolls-Ref n)) ∙ spelling_roll (Value-F.Ref n)

pub spelling_array : (items : List Value) → spelling (v.Array items) ≡ 4 ∷ (to_be_bytes w16 (length items) ++ flat_map spelling items)
spelling_array items =
    ap spelling (sym (v.rolls-Array items)) ∙ spelling_roll (Value-F.Array items)
    ∙ ap (λ k. 4 ∷ (to_be_bytes w16 k ++ concat (map spelling items))) (length-map items spelling)
    ∙ ap (λ (r : List ℕ). 4 ∷ (to_be_bytes w16 (length items) ++ r)) (concat_of_map spelling items)

pub fits_null : (d : ℕ) → fits v.Null d ≡ true
fits_null d = ap (λ w. fits w d) (sym v.rolls-Null) ∙ fits_roll Value-F.Null d

pub fits_int : (n : ℤ) (d : ℕ) → fits (v.Int n) d ≡ true
fits_int n d = ap (λ w. fits w d) (sym (v.rolls-Int n)) ∙ fits_roll (Value-F.Int n) d

pub fits_bool : (b : Bool) (d : ℕ) → fits (v.Bool b) d ≡ true
fits_bool b d = ap (λ w. fits w d) (sym (v.rolls-Bool b)) ∙ fits_roll (Value-F.Bool b) d

pub fits_str : (t : List ℕ) (d : ℕ) → fits (v.Str t) d ≡ nat_le (length t) 4096
fits_str t d = ap (λ w. fits w d) (sym (v.rolls-Str t)) ∙ fits_roll (Value-F.Str t) d

pub fits_ref : (n : Name) (d : ℕ) → fits (v.Ref n) d ≡ name_is_spelled n
fits_ref n d = ap (λ w. fits w d) (sym (v.rolls-Ref n)) ∙ fits_roll (Value-F.Ref n) d

pub fits_flat : (items : List Value) → fits (v.Array items) 0 ≡ false
fits_flat items = ap (λ w. fits w 0) (sym (v.rolls-Array items)) ∙ fits_roll (Value-F.Array items) 0

pub fits_array : (items : List Value) (d : ℕ) → fits (v.Array items) (suc d) ≡ nat_le (length items) 4096 && list_all (λ item. fits item d) items
fits_array items d =
    ap (λ w. fits w (suc d)) (sym (v.rolls-Array items)) ∙ fits_roll (Value-F.Array items) (suc d)
    ∙ ap (λ k. nat_le k 4096 && list_all (λ g. g d) (map fits items)) (length-map items fits)
    ∙ ap (λ b. nat_le (length items) 4096 && b) (all_of_map (λ g. g d) fits items)
