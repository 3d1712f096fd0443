-- The definitions on values, one equation for each kind of value.
use Rattle.std.proofs.Common.{◌≡◌, ℕ, ℤ, suc, Bool, true, false, ◌&&◌, List, [], ◌∷◌, ◌++◌, map, refl, sym, ap, ◌∙◌}
use Rattle.std.specs.Prelude.{codes, if◌then◌else◌}
use Rattle.std.specs.Fmt.{signed_decimal}
use Rattle.std.specs.List.{list_all, flat_map}
use Rattle.std.specs.Str.{is_utf8}
use Rattle.sal_value.specs.declared.name.Name.{Name}
use Rattle.sal_value.specs.declared.value.Value.{Value, roll-Value, map-Value, fold-roll-Value}
use Rattle.sal_value.specs.declared.value.Value.TheVariants as v
use Rattle.sal_value.specs.declared.value.Value.TheOpen.{Value-F}
use Rattle.sal_value.specs.Names.{name_text}
use Rattle.sal_value.specs.Spelling.{name_is_spelled}
use Rattle.sal_value.specs.Coding.{is_i32, name_in_range}
use Rattle.sal_literals.specs.Texts.{quoted_text, separated, text_step, value_text, literal_step, is_literal_at}

-- ---- texts

text_roll : (l : Value-F Value) → value_text (roll-Value l) ≡ text_step (map-Value Value (List ℕ) value_text l)
unfolding value_text
text_roll l = fold-roll-Value (List ℕ) text_step l

pub text_null : value_text v.Null ≡ codes "null"
text_null = ap value_text (sym v.rolls-Null) ∙ text_roll Value-F.Null

pub text_int : (n : ℤ) → value_text (v.Int n) ≡ signed_decimal n
text_int n = ap value_text (sym (v.rolls-Int n)) ∙ text_roll (Value-F.Int n)

pub text_bool : (b : Bool) → value_text (v.Bool b) ≡ (if b then codes "true" else codes "false")
text_bool b = ap value_text (sym (v.rolls-Bool b)) ∙ text_roll (Value-F.Bool b)

pub text_true : value_text (v.Bool true) ≡ codes "true"
text_true = text_bool true

pub text_false : value_text (v.Bool false) ≡ codes "false"
text_false = text_bool false

pub text_str : (t : List ℕ) → value_text (v.Str t) ≡ quoted_text t
text_str t = ap value_text (sym (v.rolls-Str t)) ∙ text_roll (Value-F.Str t)

pub text_ref : (n : Name) → value_text (v.Ref n) ≡ 64 ∷ name_text n
text_ref n = ap value_text (sym (v.rolls-Ref n)) ∙ text_roll (Value-F.Ref n)

-- each after a comma
abbrev pub others_text : List Value → List ℕ
others_text ws = flat_map (λ x. 44 ∷ value_text x) ws

abbrev pub items_text : List Value → List ℕ
items_text [] = []
items_text (w ∷ ws) = value_text w ++ others_text ws

others_map : (ws : List Value) → flat_map (λ (t : List ℕ). 44 ∷ t) (map value_text ws) ≡ others_text ws
others_map [] = refl
others_map (w ∷ ws) = ap (λ (r : List ℕ). 44 ∷ (value_text w ++ r)) (others_map ws)

items_map : (ws : List Value) → separated (map value_text ws) ≡ items_text ws
items_map [] = refl
items_map (w ∷ ws) = ap (λ (r : List ℕ). value_text w ++ r) (others_map ws)

pub text_array : (ws : List Value) → value_text (v.Array ws) ≡ 91 ∷ (items_text ws ++ 93 ∷ [])
text_array ws =
    ap value_text (sym (v.rolls-Array ws)) ∙ text_roll (Value-F.Array ws) ∙ ap (λ (r : List ℕ). 91 ∷ (r ++ 93 ∷ [])) (items_map ws)

-- ---- what can be read

literal_roll : (l : Value-F Value) (d : ℕ) → is_literal_at (roll-Value l) d ≡ literal_step (map-Value Value (ℕ → Bool) is_literal_at l) d
unfolding is_literal_at
literal_roll l d = ap (λ f. f d) (fold-roll-Value (ℕ → Bool) literal_step l)

pub literal_null : (d : ℕ) → is_literal_at v.Null d ≡ true
literal_null d = ap (λ w. is_literal_at w d) (sym v.rolls-Null) ∙ literal_roll Value-F.Null d

pub literal_int : (n : ℤ) (d : ℕ) → is_literal_at (v.Int n) d ≡ is_i32 n
literal_int n d = ap (λ w. is_literal_at w d) (sym (v.rolls-Int n)) ∙ literal_roll (Value-F.Int n) d

pub literal_bool : (b : Bool) (d : ℕ) → is_literal_at (v.Bool b) d ≡ true
literal_bool b d = ap (λ w. is_literal_at w d) (sym (v.rolls-Bool b)) ∙ literal_roll (Value-F.Bool b) d

pub literal_str : (t : List ℕ) (d : ℕ) → is_literal_at (v.Str t) d ≡ is_utf8 t
literal_str t d = ap (λ w. is_literal_at w d) (sym (v.rolls-Str t)) ∙ literal_roll (Value-F.Str t) d

pub literal_ref : (n : Name) (d : ℕ) → is_literal_at (v.Ref n) d ≡ name_in_range n && name_is_spelled n
literal_ref n d = ap (λ w. is_literal_at w d) (sym (v.rolls-Ref n)) ∙ literal_roll (Value-F.Ref n) d

pub literal_flat : (ws : List Value) → is_literal_at (v.Array ws) 0 ≡ false
literal_flat ws = ap (λ w. is_literal_at w 0) (sym (v.rolls-Array ws)) ∙ literal_roll (Value-F.Array ws) 0

all_of_map : {A B : Type 0} (p : B → Bool) (f : A → B) (xs : List A) → list_all p (map f xs) ≡ list_all (λ x. p (f x)) xs
all_of_map p f [] = refl
all_of_map p f (x ∷ xs) = ap (λ b. p (f x) && b) (all_of_map p f xs)

pub literal_array : (ws : List Value) (d : ℕ) → is_literal_at (v.Array ws) (suc d) ≡ list_all (λ w. is_literal_at w d) ws
literal_array ws d =
    ap (λ w. is_literal_at w (suc d)) (sym (v.rolls-Array ws)) ∙ literal_roll (Value-F.Array ws) (suc d) ∙ all_of_map (λ g. g d) is_literal_at ws
