-- Numbers of 32 bits are read as they are printed.
use Rattle.std.proofs.Common.{◌≡◌, ℕ, ℤ, pos, negsuc, suc, ◌-◌, ◌^◌, ◌<◌, ◌≤◌, ◌==◌, Bool, true, false, ◌&&◌, Option, Some, None, List, [], ◌∷◌, length, get_or, refl, sym, ap, subst, ◌∙◌, arith}
use Rattle.std.specs.Prelude.{if◌then◌else◌, nat_le, nat_lt}
use Rattle.std.specs.Fmt.{decimal, signed_decimal}
use Rattle.std.specs.List.{list_all}
use Rattle.std.proofs.lemmas.Bool.{eqb-true}
use Rattle.std.proofs.lemmas.Bool.Decides.{nat_tests}
use Rattle.std.proofs.lemmas.Fmt.{decimal_nonempty}
use Rattle.sal_value.specs.Coding.{is_i32}
use Rattle.sal_value.proofs.Bytes.{both}
use Rattle.sal_value.proofs.Canonical.{some_if}
use Rattle.sal_literals.specs.Reading.{number_of, not_negative, negative, int_of}
use Rattle.sal_literals.proofs.Decimals.{number_is, number_again, first_is}
use Rattle.sal_literals.proofs.Scalars.{is_word_byte, decimal_word}

below : (m n : ℕ) → nat_lt m n ≡ true → m < n
below m n h = grind (arith, nat_tests)

is_below : (m n : ℕ) → m < n → nat_lt m n ≡ true
is_below m n h = grind (arith, nat_tests)

-- a list by its first byte
pub record Begins (xs : List ℕ) (low high : ℕ) : Type 0 where
  pub first : ℕ
  pub rest : List ℕ
  pub is : xs ≡ first ∷ rest
  pub above : low ≤ first
  pub under : first ≤ high

begins : (xs : List ℕ) (low high : ℕ) → 0 < length xs → low ≤ get_or xs 0 0 → get_or xs 0 0 ≤ high → Begins xs low high
begins [] low high some a u = absurd (omega arith)
begins (x ∷ xs) low high some a u = record { first = x; rest = xs; is = refl; above = a; under = u }

pub decimal_begins : (n : ℕ) → n < 2 ^ 64 → Begins (decimal n) 48 57
decimal_begins n lt = begins (decimal n) 48 57 (decimal_nonempty n lt) (first_is n lt).0 (first_is n lt).1

pub int_begins : (n : ℤ) → is_i32 n ≡ true → Begins (signed_decimal n) 45 57
int_begins (pos n) h =
    let lt = below n (2 ^ 31) h in
    let b = decimal_begins n (omega arith) in
    let low = b.above in
    record { first = b.first; rest = b.rest; is = b.is; above = omega arith; under = b.under }
int_begins (negsuc n) h = record { first = 45; rest = decimal (suc n); is = refl; above = omega arith; under = omega arith }

pub int_word : (n : ℤ) → is_i32 n ≡ true → list_all is_word_byte (signed_decimal n) ≡ true
int_word (pos n) h = let lt = below n (2 ^ 31) h in decimal_word n (omega arith)
int_word (negsuc n) h = let lt = below n (2 ^ 31) h in decimal_word (suc n) (omega arith)

digits_int : (c : ℕ) (cs : List ℕ) → 48 ≤ c → int_of (c ∷ cs) ≡ not_negative (number_of (c ∷ cs))
unfolding int_of
digits_int c cs low =
    let other : (c == 45) ≡ false = grind (arith, nat_tests) in
    ap (λ t. if t then negative (number_of cs) else not_negative (number_of (c ∷ cs))) other

plain_int : (ds : List ℕ) → Begins ds 48 57 → int_of ds ≡ not_negative (number_of ds)
plain_int ds b = ap int_of b.is ∙ digits_int b.first b.rest b.above ∙ ap (λ (z : List ℕ). not_negative (number_of z)) (sym b.is)

minus_int : (ds : List ℕ) → int_of (45 ∷ ds) ≡ negative (number_of ds)
unfolding int_of
minus_int ds = refl

one_less : (n : ℕ) → n < 2 ^ 31 → negative (Some (suc n)) ≡ Some (negsuc n)
one_less n lt =
    let low : nat_le 1 (suc n) ≡ true = grind (arith, nat_tests) in
    let high : nat_le (suc n) (2 ^ 31) ≡ true = grind (arith, nat_tests) in
    let down : suc n - 1 ≡ n = omega arith in
    ap (λ t. if t && nat_le (suc n) (2 ^ 31) then Some (negsuc (suc n - 1)) else None) low
    ∙ ap (λ t. if t then Some (negsuc (suc n - 1)) else None) high ∙ ap (λ k. Some (negsuc k)) down

pub int_again : (n : ℤ) → is_i32 n ≡ true → int_of (signed_decimal n) ≡ Some n
int_again (pos n) h =
    let lt = below n (2 ^ 31) h in
    let wide : n < 2 ^ 64 = omega arith in
    plain_int (decimal n) (decimal_begins n wide) ∙ ap not_negative (number_again n wide) ∙ ap (λ t. if t then Some (pos n) else None) h
int_again (negsuc n) h =
    let lt = below n (2 ^ 31) h in
    minus_int (decimal (suc n)) ∙ ap negative (number_again (suc n) (omega arith)) ∙ one_less n lt

-- what is read of a number
abbrev pub IsIntOf : List ℕ → ℤ → Type 0
IsIntOf text n = (is_i32 n ≡ true) × (text ≡ signed_decimal n)

plain_found : (text : List ℕ) (n : ℤ) (o : Option ℕ) → number_of text ≡ o → not_negative o ≡ Some n → IsIntOf text n
plain_found text n None eo e = absurd cc
plain_found text n (Some k) eo e =
    let a = some_if (nat_lt k (2 ^ 31)) (pos k) n e in
    subst (IsIntOf text) a.1 (a.0, (number_is text k eo).0)

minus_found : (digits : List ℕ) (n : ℤ) (o : Option ℕ) → number_of digits ≡ o → negative o ≡ Some n → IsIntOf (45 ∷ digits) n
minus_found digits n None eo e = absurd cc
minus_found digits n (Some k) eo e =
    let a = some_if (nat_le 1 k && nat_le k (2 ^ 31)) (negsuc (k - 1)) n e in
    let b = both (nat_le 1 k) (nat_le k (2 ^ 31)) a.0 in
    let low : 1 ≤ k = grind (arith, nat_tests) in
    let high : k ≤ 2 ^ 31 = grind (arith, nat_tests) in
    let up : suc (k - 1) ≡ k = omega arith in
    let has = number_is digits k eo in
    subst (IsIntOf (45 ∷ digits)) a.1 (is_below (k - 1) (2 ^ 31) (omega arith), ap (λ (z : List ℕ). 45 ∷ z) (has.0 ∙ ap decimal (sym up)))

sign_found : (sign : ℕ) (digits : List ℕ) (n : ℤ) (t : Bool) → (sign == 45) ≡ t → (if t then negative (number_of digits) else not_negative (number_of (sign ∷ digits))) ≡ Some n → IsIntOf (sign ∷ digits) n
sign_found sign digits n true te e = subst (λ z. IsIntOf (z ∷ digits) n) (sym (eqb-true sign 45 te)) (minus_found digits n (number_of digits) refl e)
sign_found sign digits n false te e = plain_found (sign ∷ digits) n (number_of (sign ∷ digits)) refl e

pub int_found : (text : List ℕ) (n : ℤ) → int_of text ≡ Some n → IsIntOf text n
unfolding int_of
int_found [] n e = absurd cc
int_found (sign ∷ digits) n e = sign_found sign digits n (sign == 45) refl e
