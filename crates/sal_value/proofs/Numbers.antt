-- Ports in decimal.
use Rattle.std.proofs.Common.{◌≡◌, ◌≢◌, ℕ, zero, suc, ◌^◌, ◌<◌, ◌≤◌, List, length, get_or, Result, Ok, Err, refl, sym, ap, ◌∙◌, arith}
use Rattle.std.specs.Prelude.{MatchResult}
use Rattle.std.specs.Fmt.{decimal}
use Rattle.std.specs.Str.{IsUtf8}
use Rattle.std.specs.Str.Parse.{AllDigits, digits_value, ParsesUnsigned}
use Rattle.std.proofs.lemmas.Fmt.{decimal_digit, first_decimal, decimal_is_IsNumeral, parse-decimal, decimal-digits_value, IsAscii-decimal}
use Rattle.std.proofs.lemmas.Str.{IsUtf8-from_ascii}
use Rattle.std.proofs.lemmas.Str.Parse.{IsNumeralModel, digit_at, parse_plain}

own : IsNumeralModel (AllDigits 10) (digits_value 10)
own = record { to = λ ds d. d; from = λ ds d. d; same = λ ds d. refl }

-- the first digit of a number that isn't 0
pub first_digit : (ds : List ℕ) (n : ℕ) → ds ≡ decimal n → 1 ≤ n → n ≤ 65535 → (0 < length ds) × (49 ≤ get_or ds 0 0) × (get_or ds 0 0 ≤ 57)
first_digit ds n e low high =
    let small : n < 2 ^ 64 = omega arith in
    let numeral = (decimal_is_IsNumeral n small).0 in
    let above = first_decimal n low small in
    let range = digit_at (decimal n) 0 numeral.1 numeral.0 in
    (rw e numeral.0, rw e (omega (arith, above)), rw e range.1)

pub decimals_are_texts : (ds : List ℕ) (n : ℕ) → ds ≡ decimal n → n ≤ 65535 → IsUtf8 ds
decimals_are_texts ds n e high = rw e (IsUtf8-from_ascii (decimal n) (IsAscii-decimal n (omega arith)))

not_zero : (ds : List ℕ) (n : ℕ) → ds ≡ decimal n → 49 ≤ get_or ds 0 0 → 1 ≤ n
not_zero ds zero e low =
    let is : get_or ds 0 0 ≡ 48 = ap (λ (x : List ℕ). get_or x 0 0) (e ∙ decimal_digit 0 (omega arith)) in
    absurd (omega arith)
not_zero ds (suc n) e low = omega arith

pub parsed_is : {E : Type 0} (ds : List ℕ) (r : Result ℕ E) → ParsesUnsigned 16 10 ds r → 49 ≤ get_or ds 0 0 → get_or ds 0 0 ≤ 57
    → MatchResult r (λ n. (ds ≡ decimal n) × (1 ≤ n)) (λ e. (n : ℕ) → ds ≡ decimal n → 1 ≤ n → n ≤ 65535 → ⊥)
parsed_is {E} ds (Ok n) h low high =
    let other : get_or ds 0 0 ≢ 43 = omega arith in
    let plain : (AllDigits 10 ds × (0 < length ds) × (digits_value 10 ds < 2 ^ 16)) × (n ≡ digits_value 10 ds) = parse_plain own {E = E} 16 ds (Ok n) h other in
    let same : decimal (digits_value 10 ds) ≡ ds = decimal-digits_value own ds plain.0.0 plain.0.1 (λ e. omega arith) (omega (arith, plain.0.2)) in
    let is : ds ≡ decimal n = sym same ∙ ap decimal (sym plain.1) in
    (is, not_zero ds n is low)
parsed_is ds (Err x) h low high = λ n e one most.
    let r : Err x ≡ Ok n = parse-decimal 16 n ds (Err x) (omega arith) (omega arith) e h in
    cc
