-- Whether values have spellings, as code finds it out.
use Rattle.std.proofs.Common.{◌≡◌, ℕ, suc, ◌-◌, ◌<◌, ◌≤◌, Bool, true, false, ◌&&◌, List, [], ◌∷◌, length, refl, sym, ap, ◌∙◌, arith}
use Rattle.std.specs.Prelude.{nat_le}
use Rattle.std.specs.List.{list_all}
use Rattle.std.proofs.lemmas.Bool.{and_parts}
use Rattle.std.proofs.lemmas.Bool.Decides.{nat_tests}
use Rattle.sal_value.specs.declared.value.Value.{Value}
use Rattle.sal_value.specs.declared.value.Value.TheVariants as v
use Rattle.sal_value.specs.Spelling.{fits, is_spelled}
use Rattle.sal_value.proofs.Equations.{fits_flat as flat, fits_array}
use Rattle.sal_mail.specs.declared.message.Piece.{Piece}
use Rattle.sal_mail.specs.declared.message.Piece.TheVariants.{Known, Token}
use Rattle.sal_mail.specs.declared.message.Message.{Message}
use Rattle.sal_mail.specs.Message.{is_known, is_none_left, is_ready, known_values}
use Rattle.sal_envelope.specs.Spelling.{values_are_spelled}
use Rattle.sal_resident.specs.Packing.{piece_is_spelled}

-- ---- arrays

pub fits_flat : (items : List Value) (d : ℕ) → d ≡ 0 → fits (v.Array items) d ≡ false
fits_flat items d e = ap (fits (v.Array items)) e ∙ flat items

at_depth : (items : List Value) (d : ℕ) → 0 < d → fits (v.Array items) d ≡ nat_le (length items) 4096 && list_all (λ item. fits item (d - 1)) items
at_depth items d low =
    let up : d ≡ suc (d - 1) = omega arith in
    ap (fits (v.Array items)) up ∙ fits_array items (d - 1)

and_first : (a b : Bool) → a ≡ false → a && b ≡ false
and_first a b e = ap (λ c. c && b) e

-- too many items
pub fits_long : (items : List Value) (d : ℕ) → 0 < d → 4096 < length items → fits (v.Array items) d ≡ false
fits_long items d low many =
    let no : nat_le (length items) 4096 ≡ false = grind (arith, nat_tests) in
    at_depth items d low ∙ and_first (nat_le (length items) 4096) (list_all (λ item. fits item (d - 1)) items) no

-- what was found of an array's items answers for the array
pub array_fits :
    (w : Value) (items xs : List Value) (d : ℕ) (r : Bool) → w ≡ v.Array items → xs ≡ items → 0 < d → length items ≤ 4096
    → list_all (λ item. fits item (d - 1)) xs ≡ r → r ≡ fits w d
array_fits w items xs d r is same low few found =
    let yes : nat_le (length items) 4096 ≡ true = grind (arith, nat_tests) in
    sym (
    ap (λ y. fits y d) is ∙ at_depth items d low ∙ ap (λ b. b && list_all (λ item. fits item (d - 1)) items) yes
    ∙ ap (λ (ys : List Value). list_all (λ item. fits item (d - 1)) ys) (sym same) ∙ found
    )

-- ---- arguments

pub ready_known : (m : Message) → is_ready m ≡ true → list_all is_known m.args ≡ true
ready_known m h = (and_parts (list_all is_known m.args) (is_none_left m.after) h).0

known_length : (ps : List Piece) → list_all is_known ps ≡ true → length (known_values ps) ≡ length ps
known_length [] h = refl
known_length (Known w ∷ ps) h = ap suc (known_length ps h)
known_length (Token n ∷ ps) h = absurd cc

known_each : (ps : List Piece) → list_all is_spelled (known_values ps) ≡ list_all piece_is_spelled ps
unfolding piece_is_spelled
known_each [] = refl
known_each (Known w ∷ ps) = ap (λ b. is_spelled w && b) (known_each ps)
known_each (Token n ∷ ps) = known_each ps

pub known_spelled :
    (ps : List Piece) → list_all is_known ps ≡ true
    → values_are_spelled 16 (known_values ps) ≡ nat_le (length ps) 16 && list_all piece_is_spelled ps
known_spelled ps h =
    ap (λ n. nat_le n 16 && list_all is_spelled (known_values ps)) (known_length ps h)
    ∙ ap (λ b. nat_le (length ps) 16 && b) (known_each ps)
