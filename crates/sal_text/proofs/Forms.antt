-- What the forms of tokens exclude: by its first byte a token is of one kind.
use Rattle.std.proofs.Common.{◌≡◌, inl, inr, ℕ, zero, suc, Bool, true, false, not, ◌&&◌, ◌||◌, nat_eq, List, [], ◌∷◌, ◌++◌, take, refl, ap, ◌∙◌, arith}
use Rattle.std.specs.List.{list_all, list_any}
use Rattle.std.specs.Str.{bytes_eq}
use Rattle.std.proofs.Math.Bool.{or_assoc, or-false, and-true, and-false}
use Rattle.std.proofs.lemmas.Bool.{both_ways, false_from_ne_true, and_parts, and_from, and_left, and_right, or_from, or_cases, not-true, eqb-true}
use Rattle.std.proofs.lemmas.Bool.Decides.{nat_tests}
use Rattle.sal_ast.specs.Lexemes.{is_letter, is_digit, is_name, is_word, is_identifier, is_sign, reserved_words, signs}
use Rattle.sal_text.specs.Tokens.{is_blank, is_digits, is_string, is_form, IsLongest, begins, begins_comment}
use Rattle.sal_text.specs.code.Scanning.{short_sign, long_sign}

eq_at : (a b : ℕ) (xs ys : List ℕ) → (nat_eq a b && bytes_eq xs ys) ≡ true → (bytes_eq xs ys ≡ true → xs ≡ ys) → a ∷ xs ≡ b ∷ ys
eq_at a b xs ys e more =
    let p = and_parts (nat_eq a b) (bytes_eq xs ys) e in
    let h : a ≡ b = eqb-true a b p.0 in
    let t : xs ≡ ys = more p.1 in
    cc

pub eq_is : (xs ys : List ℕ) → bytes_eq xs ys ≡ true → xs ≡ ys
eq_is [] [] e = refl
eq_is [] (y ∷ ys) e = absurd (cc)
eq_is (x ∷ xs) [] e = absurd (cc)
eq_is (x ∷ xs) (y ∷ ys) e = eq_at x y xs ys e (eq_is xs ys)

-- what all of a list have, one of them has
pub among : (test : List ℕ → Bool) (bytes : List ℕ) (all : List (List ℕ)) → list_all test all ≡ true → list_any (bytes_eq bytes) all ≡ true → test bytes ≡ true
among test bytes [] h e = absurd (cc)
among test bytes (x ∷ xs) h e =
    let p = and_parts (test x) (list_all test xs) h in
    elim (or_cases (bytes_eq bytes x) (list_any (bytes_eq bytes) xs) e)
    [ inl k ↦ ap test (eq_is bytes x k) ∙ p.0 | inr k ↦ among test bytes xs p.1 k ]

-- ---- words

pub word_name : (bytes : List ℕ) → is_word bytes ≡ true → is_name bytes ≡ true
unfolding is_word
word_name bytes h = among is_name bytes reserved_words refl h

pub identifier_parts : (bytes : List ℕ) → is_identifier bytes ≡ true → (is_name bytes ≡ true) × (is_word bytes ≡ false)
unfolding is_identifier
identifier_parts bytes h =
    let p = and_parts (is_name bytes) (not (is_word bytes)) h in
    (p.0, not-true (is_word bytes) p.1)

pub identifier_from : (bytes : List ℕ) → is_name bytes ≡ true → is_word bytes ≡ false → is_identifier bytes ≡ true
unfolding is_identifier
identifier_from bytes n w = and_from (is_name bytes) _ n (ap not w)

-- ---- signs

pub sign_one : (c : ℕ) → is_sign (c ∷ []) ≡ short_sign c
unfolding is_sign
sign_one c = simp (and-true, and-false, or-false, or_assoc)

pub sign_two : (c d : ℕ) → is_sign (c ∷ d ∷ []) ≡ long_sign c d
unfolding is_sign
sign_two c d = simp (and-true, and-false, or-false, or_assoc)

abbrev is_brief : List ℕ → Bool
is_brief [] = true
is_brief (c ∷ []) = true
is_brief (c ∷ d ∷ []) = true
is_brief (c ∷ d ∷ e ∷ es) = false

pub sign_more : (c d e : ℕ) (es : List ℕ) → is_sign (c ∷ d ∷ e ∷ es) ≡ false
unfolding is_sign
sign_more c d e es =
    false_from_ne_true _ (λ h. let k : is_brief (c ∷ d ∷ e ∷ es) ≡ true = among is_brief (c ∷ d ∷ e ∷ es) signs refl h in let f : false ≡ true = k in cc)

abbrev is_plain : ℕ → Bool
is_plain c = not (is_letter c) && not (is_digit c) && not (nat_eq c 34) && not (is_blank c)

-- neither a letter nor a digit nor a quote nor a blank begins a sign
pub sign_plain : (c : ℕ) (cs : List ℕ) → is_sign (c ∷ cs) ≡ true → is_plain c ≡ true
unfolding is_sign
sign_plain c cs h = among (begins is_plain) (c ∷ cs) signs refl h

pub no_sign : (c : ℕ) (cs : List ℕ) → is_plain c ≡ false → is_sign (c ∷ cs) ≡ false
no_sign c cs e = false_from_ne_true _ (λ h. both_ways (is_plain c) e (sign_plain c cs h))

pub plain_letter : (c : ℕ) → is_letter c ≡ true → is_plain c ≡ false
plain_letter c h = ap (λ b. not b && not (is_digit c) && not (nat_eq c 34) && not (is_blank c)) h

pub plain_digit : (c : ℕ) → is_digit c ≡ true → is_plain c ≡ false
plain_digit c h = and_left _ (not (is_blank c)) (and_left _ (not (nat_eq c 34)) (and_right (not (is_letter c)) _ (ap not h)))

-- ---- first bytes

pub digit_no_letter : (c : ℕ) → is_digit c ≡ true → is_letter c ≡ false
digit_no_letter c h = grind (arith, nat_tests)

pub letter_no_digit : (c : ℕ) → is_letter c ≡ true → is_digit c ≡ false
letter_no_digit c h = grind (arith, nat_tests)

pub letter_no_quote : (c : ℕ) → is_letter c ≡ true → nat_eq c 34 ≡ false
letter_no_quote c h = grind (arith, nat_tests)

pub letter_no_slash : (c : ℕ) → is_letter c ≡ true → nat_eq c 47 ≡ false
letter_no_slash c h = grind (arith, nat_tests)

pub letter_no_blank : (c : ℕ) → is_letter c ≡ true → is_blank c ≡ false
letter_no_blank c h = grind (arith, nat_tests)

pub digit_no_quote : (c : ℕ) → is_digit c ≡ true → nat_eq c 34 ≡ false
digit_no_quote c h = grind (arith, nat_tests)

pub digit_no_slash : (c : ℕ) → is_digit c ≡ true → nat_eq c 47 ≡ false
digit_no_slash c h = grind (arith, nat_tests)

pub digit_no_blank : (c : ℕ) → is_digit c ≡ true → is_blank c ≡ false
digit_no_blank c h = grind (arith, nat_tests)

-- no comment begins with another byte than `/`
pub no_slash : (c : ℕ) (cs : List ℕ) → nat_eq c 47 ≡ false → begins_comment (c ∷ cs) ≡ false
no_slash c [] e = refl
no_slash c (d ∷ ds) e = and_left (nat_eq c 47) _ e

-- ---- a form by its first byte

pub form_letter : (c : ℕ) (cs : List ℕ) → is_letter c ≡ true → is_name (c ∷ cs) ≡ false → is_form (c ∷ cs) ≡ false
form_letter c cs h n =
    or_from _ _ (or_from _ _ (or_from _ _ n (and_left (is_digit c) _ (letter_no_digit c h))) (and_left (nat_eq c 34) _ (letter_no_quote c h)))
    (no_sign c cs (plain_letter c h))

pub form_digit : (c : ℕ) (cs : List ℕ) → is_digit c ≡ true → is_digits (c ∷ cs) ≡ false → is_form (c ∷ cs) ≡ false
form_digit c cs h n =
    or_from _ _ (or_from _ _ (or_from _ _ (and_left (is_letter c) _ (digit_no_letter c h)) n) (and_left (nat_eq c 34) _ (digit_no_quote c h)))
    (no_sign c cs (plain_digit c h))

pub form_quote : (cs : List ℕ) → is_form (34 ∷ cs) ≡ is_string (34 ∷ cs)
form_quote cs = ap (λ b. is_string (34 ∷ cs) || b) (no_sign 34 cs refl) ∙ or-false (is_string (34 ∷ cs))

-- ---- the longest token

pub longest_from : (bytes rest : List ℕ) → ((d : ℕ) (tail ds : List ℕ) → rest ≡ d ∷ tail → is_form (bytes ++ d ∷ ds) ≡ false) → IsLongest bytes rest
longest_from bytes [] f n lt le = absurd (omega arith)
longest_from bytes (d ∷ tail) f zero lt le = absurd (omega arith)
longest_from bytes (d ∷ tail) f (suc n) lt le = f d tail (take n tail) refl

-- the next byte makes no longer token
pub longest_next : (bytes : List ℕ) (d : ℕ) (ds : List ℕ) → IsLongest bytes (d ∷ ds) → is_form (bytes ++ d ∷ []) ≡ false
longest_next bytes d ds k = k 1 (omega arith) (omega arith)

pub not_all : (is : ℕ → Bool) (cs : List ℕ) (d : ℕ) (ds : List ℕ) → is d ≡ false → list_all is (cs ++ d ∷ ds) ≡ false
not_all is [] d ds e = and_left (is d) _ e
not_all is (c ∷ cs) d ds e = and_right (is c) _ (not_all is cs d ds e)

pub all_more : (is : ℕ → Bool) (cs : List ℕ) (d : ℕ) → list_all is cs ≡ true → is d ≡ true → list_all is (cs ++ d ∷ []) ≡ true
all_more is [] d h e = and_from (is d) true e refl
all_more is (c ∷ cs) d h e =
    let p = and_parts (is c) (list_all is cs) h in
    and_from (is c) _ p.0 (all_more is cs d p.1 e)
