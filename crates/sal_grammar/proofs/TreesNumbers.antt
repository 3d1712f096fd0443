-- Numbers: the text of a token and the value of a tree.
use Rattle.std.proofs.Common.{◌≡◌, ℕ, zero, suc, ◌+◌, ◌*◌, ◌/◌, ◌%◌, ◌^◌, ◌<◌, ◌≤◌, Bool, true, false, cond, ◌&&◌, not, List, [], ◌∷◌, length, refl, sym, ap, ◌∙◌, subst, arith}
use Rattle.std.specs.Prelude.{nat_le, nat_eq, get_or, decimal, ◌==◌}
use Rattle.std.specs.List.{list_all}
use Rattle.std.specs.Fmt.{digits, digits_onto, digit_glyph}
use Rattle.std.specs.Str.Parse.{AllDigits, IsNumeral, digits_value}
use Rattle.std.proofs.Math.Nat.{pow-suc}
use Rattle.std.proofs.lemmas.Bool.{leb-true, eq-eqb, eqb-true}
use Rattle.std.proofs.lemmas.Fmt.{decimal-digits_value, decimal_is_IsNumeral_wide, length-decimal-le}
use Rattle.std.proofs.lemmas.Str.{digit_value_digit}
use Rattle.std.proofs.lemmas.Str.Parse.{IsNumeralModel}
use Rattle.sal_ast.specs.Lexemes.{is_digit, is_short, is_number}
use Rattle.sal_grammar.proofs.Exactness.{differ}
use Rattle.sal_grammar.proofs.TreesTokens.{left_true, right_true}

own : IsNumeralModel (AllDigits 10) (digits_value 10)
own = record { to = λ ds d. d; from = λ ds d. d; same = λ ds d. refl }

all_digits : (text : List ℕ) → list_all is_digit text ≡ true → AllDigits 10 text
all_digits [] h = tt
all_digits (c ∷ cs) h =
    let here = left_true (is_digit c) (list_all is_digit cs) h in
    let low : 48 ≤ c = leb-true 48 c (left_true (nat_le 48 c) (nat_le c 57) here) in
    let high : c ≤ 57 = leb-true c 57 (right_true (nat_le 48 c) (nat_le c 57) here) in
    let v = digit_value_digit c (low, high) in
    (omega (arith, v, high), all_digits cs (right_true (is_digit c) (list_all is_digit cs) h))

some_digit : (text : List ℕ) → is_short text ≡ true → 0 < length text
some_digit [] h = absurd (differ (sym h))
some_digit (c ∷ cs) h = omega arith

not_both : (b : Bool) → not b ≡ true → b ≡ true → ⊥
not_both true h e = differ (sym h)
not_both false h e = differ (sym e)

zero_alone : (text : List ℕ) → is_short text ≡ true → get_or text 0 0 ≡ 48 → length text ≡ 1
zero_alone [] h e = absurd (differ (sym h))
zero_alone (c ∷ []) h e = refl
zero_alone (c ∷ d ∷ cs) h e = absurd (not_both (nat_eq c 48) h (eq-eqb c 48 e))

pub number_most : (text : List ℕ) → is_number text ≡ true → digits_value 10 text ≤ 2147483648
unfolding is_number
number_most text h = leb-true (digits_value 10 text) 2147483648 (right_true (list_all is_digit text && is_short text) _ h)

pub number_text : (text : List ℕ) → is_number text ≡ true → decimal (digits_value 10 text) ≡ text
unfolding is_number
number_text text h =
    let front = left_true (list_all is_digit text && is_short text) (nat_le (digits_value 10 text) 2147483648) h in
    let digits = left_true (list_all is_digit text) (is_short text) front in
    let short = right_true (list_all is_digit text) (is_short text) front in
    let m : digits_value 10 text ≤ 2147483648 = leb-true (digits_value 10 text) 2147483648 (right_true (list_all is_digit text && is_short text) (nat_le (digits_value 10 text) 2147483648) h) in
    decimal-digits_value own text (all_digits text digits) (some_digit text short) (zero_alone text short) (omega (arith, m))

-- fewer digits than there might be: they are all
all_written : (k n : ℕ) (acc : List ℕ) → length (digits_onto k 10 false n acc) < k + length acc → n < 10 ^ k
all_written zero n acc h = absurd (omega (arith, h))
all_written (suc k) n acc h = by (λ m xs. all_written k m xs) (n / 10 == 0) refl
  where
    glyph : ℕ
    glyph = digit_glyph false (n % 10)

    rest : List ℕ
    rest = digits_onto k 10 false (n / 10) (glyph ∷ acc)

    p : 10 ^ suc k ≡ 10 ^ k * 10
    p = pow-suc 10 k

    by : ((m : ℕ) (xs : List ℕ) → length (digits_onto k 10 false m xs) < k + length xs → m < 10 ^ k) → (b : Bool) → (n / 10 == 0) ≡ b → n < 10 ^ suc k
    by go true e =
        let z = eqb-true (n / 10) 0 e in
        some_power (omega (arith, z))
      where
        some_power : n < 10 → n < 10 ^ suc k
        some_power s = omega (arith, s, p, positive k)
          where
            positive : (j : ℕ) → 0 < 10 ^ j
            positive zero = omega arith
            positive (suc j) = let q = positive j in omega (arith, q, pow-suc 10 j)
    by go false e =
        let s : length rest < suc k + length acc = subst (λ z. length (cond z (glyph ∷ acc) rest) < suc k + length acc) e h in
        let r : n / 10 < 10 ^ k = go (n / 10) (glyph ∷ acc) (omega (arith, s)) in
        omega (arith, r, p)

pub number_value : (n : ℕ) → is_number (decimal n) ≡ true → digits_value 10 (decimal n) ≡ n
unfolding digits
number_value n h =
    let v : digits_value 10 (decimal n) ≤ 2147483648 = number_most (decimal n) h in
    let same : decimal (digits_value 10 (decimal n)) ≡ decimal n = number_text (decimal n) h in
    let short : length (decimal (digits_value 10 (decimal n))) ≤ 10 = length-decimal-le 10 (digits_value 10 (decimal n)) (omega arith) (omega (arith, v)) (omega (arith, v)) in
    let few : length (decimal n) ≤ 10 = subst (λ z. length z ≤ 10) same short in
    (decimal_is_IsNumeral_wide n (all_written 64 n [] (omega (arith, few)))).1
