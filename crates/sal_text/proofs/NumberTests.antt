-- The number that digits spell, digit by digit.
use Rattle.std.proofs.Common.{◌≡◌, ℕ, zero, suc, ◌+◌, ◌-◌, ◌*◌, ◌<◌, ◌≤◌, true, false, ◌&&◌, nat_le, List, [], ◌∷◌, length, take, get_or, ap, sym, arith}
use Rattle.std.specs.Char.{digit_value}
use Rattle.std.specs.List.{list_all}
use Rattle.std.specs.Str.Parse.{digits_value}
use Rattle.std.proofs.lemmas.Bool.{and_parts, lt-leb}
use Rattle.std.proofs.lemmas.Bool.Decides.{nat_tests}
use Rattle.std.proofs.lemmas.Int.Digits.{digits_value_more}
use Rattle.std.proofs.lemmas.Str.Parse.{digits_value-take-le}
use Rattle.sal_ast.specs.Lexemes.{is_digit, is_short, is_number}

pub number_parts : (digits : List ℕ) → list_all is_digit digits ≡ true → is_number digits ≡ (is_short digits && nat_le (digits_value 10 digits) 2147483648)
unfolding is_number
number_parts digits h = ap (λ b. b && is_short digits && nat_le (digits_value 10 digits) 2147483648) h

pub digit_at : (digits : List ℕ) (i : ℕ) → list_all is_digit digits ≡ true → i < length digits → is_digit (get_or digits i 0) ≡ true
digit_at [] i h lt = absurd (omega arith)
digit_at (c ∷ cs) zero h lt = (and_parts (is_digit c) (list_all is_digit cs) h).0
digit_at (c ∷ cs) (suc i) h lt = digit_at cs i (and_parts (is_digit c) (list_all is_digit cs) h).1 (omega arith)

pub digit_worth : (c : ℕ) → is_digit c ≡ true → (digit_value c ≡ c - 48) × (48 ≤ c) × (c ≤ 57)
digit_worth c h = (grind (arith, nat_tests), grind (arith, nat_tests), grind (arith, nat_tests))

pub value_more : (digits : List ℕ) (i : ℕ) → i < length digits → digits_value 10 (take (i + 1) digits) ≡ digits_value 10 (take i digits) * 10 + digit_value (get_or digits i 0)
value_more digits i lt = digits_value_more 10 digits i lt

pub value_over : (digits : List ℕ) (i v : ℕ) → list_all is_digit digits ≡ true → i < length digits → v ≡ digits_value 10 (take i digits) →
    2147483648 < v * 10 + (get_or digits i 0 - 48) → false ≡ nat_le (digits_value 10 digits) 2147483648
value_over digits i v h lt e over =
    let w = digit_worth (get_or digits i 0) (digit_at digits i h lt) in
    let m : digits_value 10 (take (i + 1) digits) ≤ digits_value 10 digits = digits_value-take-le 10 digits (i + 1) (omega arith) in
    let k : digits_value 10 (take (i + 1) digits) ≡ digits_value 10 (take i digits) * 10 + digit_value (get_or digits i 0) = value_more digits i lt in
    sym (lt-leb (digits_value 10 digits) 2147483648 (omega (arith, w.0, w.1, w.2)))
