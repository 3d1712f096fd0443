-- Numbers and their decimal texts.
use Rattle.std.proofs.Common.{◌≡◌, ◌≢◌, ℕ, zero, suc, ◌^◌, ◌<◌, ◌≤◌, Bool, true, false, ◌&&◌, List, [], ◌∷◌, length, get_or, Option, Some, None, Result, Ok, Err, refl, sym, ap, subst, ◌∙◌, arith}
use Rattle.std.specs.Prelude.{nat_lt, if◌then◌else◌}
use Rattle.std.specs.Fmt.{decimal}
use Rattle.std.specs.Result.{result_ok}
use Rattle.std.specs.Str.{IsUtf8, bytes_eq}
use Rattle.std.specs.Str.Parse.{AllDigits, digits_value, ParsesUnsigned}
use Rattle.std.proofs.lemmas.Bool.Decides.{nat_tests}
use Rattle.std.proofs.lemmas.Fmt.{decimal_digit, first_decimal, decimal_nonempty, decimal_is_IsNumeral, parse-decimal, decimal-digits_value, IsAscii-decimal}
use Rattle.std.proofs.lemmas.Slice.Eq.{bytes_eq-Decides}
use Rattle.std.proofs.lemmas.Str.{IsUtf8-from_ascii}
use Rattle.std.proofs.lemmas.Str.Parse.{IsNumeralModel, digit_at, parse_plain}
use Rattle.sal_value.proofs.Bytes.{both}
use Rattle.sal_value.proofs.Canonical.{some_if}
use Rattle.sal_literals.specs.Reading.{number_of}

pub own : IsNumeralModel (AllDigits 10) (digits_value 10)
own = record { to = λ ds d. d; from = λ ds d. d; same = λ ds d. refl }

below : (m n : ℕ) → nat_lt m n ≡ true → m < n
below m n h = grind (arith, nat_tests)

is_below : (m n : ℕ) → m < n → nat_lt m n ≡ true
is_below m n h = grind (arith, nat_tests)

-- the number of a text has this text
pub number_is : (ds : List ℕ) (n : ℕ) → number_of ds ≡ Some n → (ds ≡ decimal n) × (n < 2 ^ 64)
unfolding number_of
number_is ds n e =
    let v : ℕ = digits_value 10 ds in
    let a = some_if (nat_lt v (2 ^ 64) && bytes_eq (decimal v) ds) v n e in
    let b = both (nat_lt v (2 ^ 64)) (bytes_eq (decimal v) ds) a.0 in
    let same : decimal v ≡ ds = (bytes_eq-Decides (decimal v) ds).0 b.1 in
    (sym same ∙ ap decimal a.1, subst (λ z. z < 2 ^ 64) a.1 (below v (2 ^ 64) b.0))

some_of : {A : Type 0} (b c : Bool) (x : A) → b ≡ true → c ≡ true → (if b && c then Some x else None) ≡ Some x
some_of true true x p q = refl
some_of true false x p q = absurd cc
some_of false c x p q = absurd cc

-- a number with this text is the text's
given : (ds : List ℕ) → digits_value 10 ds < 2 ^ 64 → decimal (digits_value 10 ds) ≡ ds → number_of ds ≡ Some (digits_value 10 ds)
unfolding number_of
given ds lt same =
    some_of (nat_lt (digits_value 10 ds) (2 ^ 64)) (bytes_eq (decimal (digits_value 10 ds)) ds) (digits_value 10 ds)
    (is_below (digits_value 10 ds) (2 ^ 64) lt) ((bytes_eq-Decides (decimal (digits_value 10 ds)) ds).1 same)

pub number_again : (n : ℕ) → n < 2 ^ 64 → number_of (decimal n) ≡ Some n
number_again n lt =
    let is : digits_value 10 (decimal n) ≡ n = (decimal_is_IsNumeral n lt).1 in
    given (decimal n) (subst (λ z. z < 2 ^ 64) (sym is) lt) (ap decimal is) ∙ ap Some is

none_at : (ds : List ℕ) (o : Option ℕ) → number_of ds ≡ o → ((n : ℕ) → ds ≡ decimal n → n < 2 ^ 64 → ⊥) → None ≡ o
none_at ds None e no_number = refl
none_at ds (Some n) e no_number = let is = number_is ds n e in absurd (no_number n is.0 is.1)

-- what is the text of no number has none
pub no_number : (ds : List ℕ) → ((n : ℕ) → ds ≡ decimal n → n < 2 ^ 64 → ⊥) → None ≡ number_of ds
no_number ds h = none_at ds (number_of ds) refl h

pub no_text : (ds : List ℕ) → (IsUtf8 ds → ⊥) → None ≡ number_of ds
no_text ds other = no_number ds (λ n e lt. other (subst IsUtf8 (sym e) (IsUtf8-from_ascii (decimal n) (IsAscii-decimal n lt))))

pub parsed_is : {E : Type 0} (ds : List ℕ) (r : Result ℕ E) → ParsesUnsigned 64 10 ds r → 49 ≤ get_or ds 0 0 → get_or ds 0 0 ≤ 57 → result_ok r ≡ number_of ds
parsed_is {E} ds (Ok n) h low high =
    let other : get_or ds 0 0 ≢ 43 = omega arith in
    let plain : (AllDigits 10 ds × (0 < length ds) × (digits_value 10 ds < 2 ^ 64)) × (n ≡ digits_value 10 ds) = parse_plain own {E = E} 64 ds (Ok n) h other in
    let same : decimal (digits_value 10 ds) ≡ ds = decimal-digits_value own ds plain.0.0 plain.0.1 (λ e. omega arith) plain.0.2 in
    ap Some plain.1 ∙ sym (given ds plain.0.2 same)
parsed_is ds (Err x) h low high = no_number ds (λ n e lt.
    let r : Err x ≡ Ok n = parse-decimal 64 n ds (Err x) lt lt e h in
    cc)

-- the first digit of a number's text
pub first_is : (n : ℕ) → n < 2 ^ 64 → (48 ≤ get_or (decimal n) 0 0) × (get_or (decimal n) 0 0 ≤ 57)
first_is n lt =
    let numeral = (decimal_is_IsNumeral n lt).0 in
    let range = digit_at (decimal n) 0 numeral.1 numeral.0 in
    (range.0, range.1)

length_is : (ds : List ℕ) (n : ℕ) → ds ≡ decimal n → length ds ≡ length (decimal n)
length_is ds n e = ap length e

first_of_text : (ds : List ℕ) (n : ℕ) → ds ≡ decimal n → get_or ds 0 0 ≡ get_or (decimal n) 0 0
first_of_text ds n e = ap (λ (z : List ℕ). get_or z 0 0) e

pub no_digits : (ds : List ℕ) → length ds ≡ 0 → None ≡ number_of ds
no_digits ds none = no_number ds (λ n e lt. let some = decimal_nonempty n lt in let same = length_is ds n e in absurd (omega arith))

pub low_first : (ds : List ℕ) → get_or ds 0 0 < 48 → None ≡ number_of ds
low_first ds low = no_number ds (λ n e lt. let first = (first_is n lt).0 in let same = first_of_text ds n e in absurd (omega arith))

pub high_first : (ds : List ℕ) → 57 < get_or ds 0 0 → None ≡ number_of ds
high_first ds high = no_number ds (λ n e lt. let first = (first_is n lt).1 in let same = first_of_text ds n e in absurd (omega arith))

single : (ds : List ℕ) → get_or ds 0 0 ≡ 48 → length ds ≡ 1 → ds ≡ 48 ∷ []
single [] first one = absurd (omega arith)
single (d ∷ []) first one = ap (λ z. z ∷ []) first
single (d ∷ c ∷ ds) first one = absurd (omega arith)

zero_text : decimal 0 ≡ 48 ∷ []
zero_text = decimal_digit 0 (omega arith)

pub one_zero : (ds : List ℕ) → get_or ds 0 0 ≤ 48 → 48 ≤ get_or ds 0 0 → length ds ≡ 1 → Some 0 ≡ number_of ds
one_zero ds low high one = sym (ap number_of (single ds (omega arith) one ∙ sym zero_text) ∙ number_again 0 (omega arith))

is_zero : (ds : List ℕ) (n : ℕ) → ds ≡ decimal n → n < 2 ^ 64 → get_or ds 0 0 ≤ 48 → length ds ≡ 1
is_zero ds zero e lt low = ap length (e ∙ zero_text)
is_zero ds (suc n) e lt low =
    let first : 48 < get_or (decimal (suc n)) 0 0 = first_decimal (suc n) (omega arith) lt in
    let same = first_of_text ds (suc n) e in
    absurd (omega arith)

pub more_than_zero : (ds : List ℕ) → get_or ds 0 0 ≤ 48 → (length ds ≡ 1 → ⊥) → None ≡ number_of ds
more_than_zero ds low other = no_number ds (λ n e lt. other (is_zero ds n e lt low))
