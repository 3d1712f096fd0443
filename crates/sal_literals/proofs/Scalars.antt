-- Numbers, names and words are read as they are printed.
use Rattle.std.proofs.Common.{◌≡◌, ℕ, ◌^◌, ◌<◌, ◌≤◌, ◌==◌, Bool, true, false, ◌&&◌, ◌||◌, not, Option, Some, None, List, [], ◌∷◌, ◌++◌, length, take, drop, refl, sym, ap, subst, ◌∙◌, arith}
use Rattle.std.specs.Prelude.{if◌then◌else◌, nat_le, nat_lt, codes}
use Rattle.std.specs.Fmt.{decimal}
use Rattle.std.specs.List.{list_all}
use Rattle.std.specs.Option.{option_map}
use Rattle.std.specs.Str.{bytes_eq}
use Rattle.std.specs.Str.Parse.{AllDigits}
use Rattle.std.proofs.lemmas.Bool.{eqb-true}
use Rattle.std.proofs.lemmas.Bool.Decides.{nat_tests}
use Rattle.std.proofs.lemmas.Fmt.{decimal_is_IsNumeral, decimal_nonempty}
use Rattle.std.proofs.lemmas.List.{take-append-drop}
use Rattle.std.proofs.lemmas.Slice.Eq.{bytes_eq-Decides}
use Rattle.std.proofs.lemmas.Str.Parse.{digit_from_value}
use Rattle.sal_value.specs.declared.name.Uan.{Uan}
use Rattle.sal_value.specs.declared.name.Name.{Name}
use Rattle.sal_value.specs.declared.name.Name.TheVariants as name
use Rattle.sal_value.specs.Names.{lower_case, uan_text, name_text, is_uan, is_host, is_port, is_path, is_uan_path, is_host_byte, is_path_byte, NonePass, FirstPasses, until, from_first, is_colon}
use Rattle.sal_value.specs.Spelling.{name_is_spelled}
use Rattle.sal_value.specs.Coding.{name_in_range}
use Rattle.sal_value.specs.Decoding.{canonical_uan}
use Rattle.sal_value.proofs.Bytes.{both, host_parts, path_parts}
use Rattle.sal_value.proofs.Canonical.{some_if, uan_of_is, uan_of_text}
use Rattle.sal_value.proofs.Readings.{host_stays, port_range}
use Rattle.sal_literals.specs.Reading.{number_of, after_prefix, anon_of, name_by, name_of, ends_word}
use Rattle.sal_literals.proofs.Decimals.{number_is, number_again}

-- ---- cutting at a byte

pub until_at : (test : ℕ → Bool) (w rest : List ℕ) → NonePass test w → FirstPasses test rest → until test (w ++ rest) ≡ w
until_at test [] [] none first = refl
until_at test [] (b ∷ rest) none first = ap (λ t. if t then [] else b ∷ until test rest) first
until_at test (b ∷ w) rest none first =
    ap (λ t. if t then [] else b ∷ until test (w ++ rest)) none.0 ∙ ap (λ (z : List ℕ). b ∷ z) (until_at test w rest none.1 first)

pub rest_at : (test : ℕ → Bool) (w rest : List ℕ) → NonePass test w → FirstPasses test rest → from_first test (w ++ rest) ≡ rest
rest_at test [] [] none first = refl
rest_at test [] (b ∷ rest) none first = ap (λ t. if t then b ∷ rest else from_first test rest) first
rest_at test (b ∷ w) rest none first = ap (λ t. if t then b ∷ (w ++ rest) else from_first test (w ++ rest)) none.0 ∙ rest_at test w rest none.1 first

whole_by : (test : ℕ → Bool) (b : ℕ) (xs : List ℕ) (t : Bool) → until test xs ++ from_first test xs ≡ xs
    → (if t then [] else b ∷ until test xs) ++ (if t then b ∷ xs else from_first test xs) ≡ b ∷ xs
whole_by test b xs true e = refl
whole_by test b xs false e = ap (λ (z : List ℕ). b ∷ z) e

pub cut_whole : (test : ℕ → Bool) (xs : List ℕ) → until test xs ++ from_first test xs ≡ xs
cut_whole test [] = refl
cut_whole test (b ∷ xs) = whole_by test b xs (test b) (cut_whole test xs)

-- what is left is nothing, or begins with a byte that passes
first_by : (test : ℕ → Bool) (b : ℕ) (xs : List ℕ) (t : Bool) → test b ≡ t → FirstPasses test (from_first test xs) → FirstPasses test (if t then b ∷ xs else from_first test xs)
first_by test b xs true e h = e
first_by test b xs false e h = h

pub rest_first : (test : ℕ → Bool) (xs : List ℕ) → FirstPasses test (from_first test xs)
rest_first test [] = tt
rest_first test (b ∷ xs) = first_by test b xs (test b) refl (rest_first test xs)

-- ---- bytes of words

-- no sign of values around them
abbrev pub is_word_byte : ℕ → Bool
is_word_byte b = not (b == 44 || (b == 93 || (b == 34 || b == 91)))

pub word_ends : (b : ℕ) → is_word_byte b ≡ true → ends_word b ≡ false
word_ends b h = grind (arith, nat_tests)

pub word_none : (w : List ℕ) → list_all is_word_byte w ≡ true → NonePass ends_word w
word_none [] h = tt
word_none (b ∷ w) h =
    let parts = both (is_word_byte b) (list_all is_word_byte w) h in
    (word_ends b parts.0, word_none w parts.1)

all_append : (p : ℕ → Bool) (xs ys : List ℕ) → list_all p xs ≡ true → list_all p ys ≡ true → list_all p (xs ++ ys) ≡ true
all_append p [] ys h k = k
all_append p (x ∷ xs) ys h k =
    let parts = both (p x) (list_all p xs) h in
    ap (λ b. b && list_all p (xs ++ ys)) parts.0 ∙ all_append p xs ys parts.1 k

all_weaker : (p q : ℕ → Bool) (xs : List ℕ) → ((b : ℕ) → p b ≡ true → q b ≡ true) → list_all p xs ≡ true → list_all q xs ≡ true
all_weaker p q [] h k = refl
all_weaker p q (x ∷ xs) h k =
    let parts = both (p x) (list_all p xs) k in
    ap (λ b. b && list_all q xs) (h x parts.0) ∙ all_weaker p q xs h parts.1

digit_word : (c : ℕ) → 48 ≤ c → c ≤ 57 → is_word_byte c ≡ true
digit_word c low high = grind (arith, nat_tests)

digits_word : (ds : List ℕ) → AllDigits 10 ds → list_all is_word_byte ds ≡ true
digits_word [] h = refl
digits_word (c ∷ ds) h =
    let range = digit_from_value c h.0 in
    ap (λ b. b && list_all is_word_byte ds) (digit_word c range.0 range.1) ∙ digits_word ds h.1

pub decimal_word : (n : ℕ) → n < 2 ^ 64 → list_all is_word_byte (decimal n) ≡ true
decimal_word n lt = digits_word (decimal n) (decimal_is_IsNumeral n lt).0.1

digit_no_colon : (c : ℕ) → 48 ≤ c → c ≤ 57 → is_colon c ≡ false
digit_no_colon c low high = grind (arith, nat_tests)

digits_no_colon : (ds : List ℕ) → AllDigits 10 ds → NonePass is_colon ds
digits_no_colon [] h = tt
digits_no_colon (c ∷ ds) h =
    let range = digit_from_value c h.0 in
    (digit_no_colon c range.0 range.1, digits_no_colon ds h.1)

host_word : (b : ℕ) → is_host_byte b ≡ true → is_word_byte b ≡ true
host_word b h = grind (arith, nat_tests)

path_word : (b : ℕ) → is_path_byte b ≡ true → is_word_byte b ≡ true
path_word b h = grind (arith, nat_tests)

uan_word : (u : Uan) → is_uan u ≡ true → list_all is_word_byte (uan_text u) ≡ true
unfolding is_uan uan_text
uan_word u h =
    let a = both (is_host u.host) (is_port u.port && is_uan_path (47 ∷ u.path)) h in
    let b = both (is_port u.port) (is_uan_path (47 ∷ u.path)) a.1 in
    let c = both (nat_le 1 (length u.path)) (is_path u.path) b.1 in
    let host = (host_parts u.host a.0).2 in
    let hosts : list_all is_word_byte (lower_case u.host) ≡ true = ap (list_all is_word_byte) (host_stays u.host host) ∙ all_weaker is_host_byte is_word_byte u.host host_word host in
    let port : list_all is_word_byte (decimal u.port) ≡ true = decimal_word u.port (omega (arith, (port_range u.port b.0).1)) in
    let path : list_all is_word_byte u.path ≡ true = all_weaker is_path_byte is_word_byte u.path path_word (path_parts u.path c.1).1 in
    all_append is_word_byte (lower_case u.host ++ 58 ∷ decimal u.port) (47 ∷ u.path) (all_append is_word_byte (lower_case u.host) (58 ∷ decimal u.port) hosts port) path

-- ---- names

below : (m n : ℕ) → nat_lt m n ≡ true → m < n
below m n h = grind (arith, nat_tests)

is_below : (m n : ℕ) → m < n → nat_lt m n ≡ true
is_below m n h = grind (arith, nat_tests)

pub name_word : (n : Name) → name_in_range n ≡ true → name_is_spelled n ≡ true → list_all is_word_byte (name_text n) ≡ true
unfolding name_text name_in_range name_is_spelled
name_word (name.Anon theatre number) r s =
    let parts = both (nat_lt theatre (2 ^ 32)) (nat_lt number (2 ^ 64)) r in
    let lt = below theatre (2 ^ 32) parts.0 in
    all_append is_word_byte (decimal theatre) (58 ∷ decimal number) (decimal_word theatre (omega arith)) (decimal_word number (below number (2 ^ 64) parts.1))
name_word (name.Outside number) r s = decimal_word number (below number (2 ^ 64) r)
name_word (name.Uan u) r s = uan_word u s

anon_again : (theatre number : ℕ) → theatre < 2 ^ 32 → number < 2 ^ 64 → name_of (name_text (name.Anon theatre number)) ≡ Some (name.Anon theatre number)
unfolding name_of name_text
anon_again theatre number t n =
    let lt : theatre < 2 ^ 64 = omega arith in
    let none = digits_no_colon (decimal theatre) (decimal_is_IsNumeral theatre lt).0.1 in
    let rest : List ℕ = decimal theatre ++ 58 ∷ decimal number in
    let first : until is_colon rest ≡ decimal theatre = until_at is_colon (decimal theatre) (58 ∷ decimal number) none refl in
    let second : from_first is_colon rest ≡ 58 ∷ decimal number = rest_at is_colon (decimal theatre) (58 ∷ decimal number) none refl in
    ap (λ (z : List ℕ). anon_of (number_of z) (number_of (drop 1 (from_first is_colon rest)))) first
    ∙ ap (λ (z : List ℕ). anon_of (number_of (decimal theatre)) (number_of (drop 1 z))) second
    ∙ ap (λ (o : Option ℕ). anon_of o (number_of (decimal number))) (number_again theatre lt)
    ∙ ap (λ (o : Option ℕ). anon_of (Some theatre) o) (number_again number n)
    ∙ ap (λ b. if b then Some (name.Anon theatre number) else None) (is_below theatre (2 ^ 32) t)

outside_again : (number : ℕ) → number < 2 ^ 64 → name_of (name_text (name.Outside number)) ≡ Some (name.Outside number)
unfolding name_of name_text
outside_again number lt = ap (option_map name.Outside) (number_again number lt)

-- a universal name begins with its scheme
uan_prefix : (u : Uan) → name_by (uan_text u) (after_prefix (codes "anon:") (uan_text u)) (after_prefix (codes "outside:") (uan_text u)) ≡ option_map name.Uan (canonical_uan (uan_text u))
unfolding uan_text
uan_prefix u = refl

uan_again : (u : Uan) → is_uan u ≡ true → name_of (uan_text u) ≡ Some (name.Uan u)
unfolding name_of
uan_again u h = uan_prefix u ∙ ap (option_map name.Uan) (uan_of_text u h)

uan_text_again : (u : Uan) → is_uan u ≡ true → name_of (name_text (name.Uan u)) ≡ Some (name.Uan u)
unfolding name_text
uan_text_again u s = uan_again u s

pub name_again : (n : Name) → name_in_range n ≡ true → name_is_spelled n ≡ true → name_of (name_text n) ≡ Some n
unfolding name_in_range name_is_spelled
name_again (name.Anon theatre number) r s =
    let parts = both (nat_lt theatre (2 ^ 32)) (nat_lt number (2 ^ 64)) r in
    anon_again theatre number (below theatre (2 ^ 32) parts.0) (below number (2 ^ 64) parts.1)
name_again (name.Outside number) r s = outside_again number (below number (2 ^ 64) r)
name_again (name.Uan u) r s = uan_text_again u s

-- what is read of a name: it is good, and has this text
abbrev pub IsNameOf : List ℕ → Name → Type 0
IsNameOf text n = (name_in_range n ≡ true) × (name_is_spelled n ≡ true) × (text ≡ name_text n)

prefix_is : (prefix text rest : List ℕ) → after_prefix prefix text ≡ Some rest → text ≡ prefix ++ rest
prefix_is prefix text rest e =
    let front : List ℕ = take (length prefix) text in
    let a = some_if (bytes_eq front prefix) (drop (length prefix) text) rest e in
    let same : front ≡ prefix = (bytes_eq-Decides front prefix).0 a.0 in
    sym (take-append-drop (length prefix) text) ∙ ap (λ (z : List ℕ). z ++ drop (length prefix) text) same ∙ ap (λ (z : List ℕ). prefix ++ z) a.1

some_same : {A : Type 0} (x y : A) → Some x ≡ Some y → x ≡ y
some_same x y e = cc

and_true : (a b : Bool) → a ≡ true → b ≡ true → a && b ≡ true
and_true true b h k = k
and_true false b h k = h

-- a colon and a number after it
after_colon : (xs : List ℕ) (n : ℕ) → FirstPasses is_colon xs → drop 1 xs ≡ decimal n → n < 2 ^ 64 → xs ≡ 58 ∷ decimal n
after_colon [] n first e lt =
    let some : 0 < length (decimal n) = decimal_nonempty n lt in
    let none : 0 ≡ length (decimal n) = ap (λ (z : List ℕ). length z) e in
    absurd (omega arith)
after_colon (b ∷ xs) n first e lt = ap (λ z. z ∷ xs) (eqb-true b 58 first) ∙ ap (λ (z : List ℕ). 58 ∷ z) e

anon_found : (text rest : List ℕ) (n : Name) (a b : Option ℕ) → text ≡ codes "anon:" ++ rest → number_of (until is_colon rest) ≡ a → number_of (drop 1 (from_first is_colon rest)) ≡ b
    → anon_of a b ≡ Some n → IsNameOf text n
unfolding name_in_range name_is_spelled name_text
anon_found text rest n None b is ea eb e = absurd cc
anon_found text rest n (Some theatre) None is ea eb e = absurd cc
anon_found text rest n (Some theatre) (Some number) is ea eb e =
    let t = some_if (nat_lt theatre (2 ^ 32)) (name.Anon theatre number) n e in
    let first = number_is (until is_colon rest) theatre ea in
    let second = number_is (drop 1 (from_first is_colon rest)) number eb in
    let colon : from_first is_colon rest ≡ 58 ∷ decimal number = after_colon (from_first is_colon rest) number (rest_first is_colon rest) second.0 second.1 in
    let whole : rest ≡ decimal theatre ++ 58 ∷ decimal number =
    sym (cut_whole is_colon rest) ∙ ap (λ (z : List ℕ). z ++ from_first is_colon rest) first.0 ∙ ap (λ (z : List ℕ). decimal theatre ++ z) colon in
    subst (IsNameOf text) t.1 (and_true (nat_lt theatre (2 ^ 32)) (nat_lt number (2 ^ 64)) t.0 (is_below number (2 ^ 64) second.1), refl, is ∙ ap (λ (z : List ℕ). codes "anon:" ++ z) whole)

outside_found : (text digits : List ℕ) (n : Name) (o : Option ℕ) → text ≡ codes "outside:" ++ digits → number_of digits ≡ o → option_map name.Outside o ≡ Some n → IsNameOf text n
unfolding name_in_range name_is_spelled name_text
outside_found text digits n None is eo e = absurd cc
outside_found text digits n (Some number) is eo e =
    let has = number_is digits number eo in
    subst (IsNameOf text) (some_same (name.Outside number) n e) (is_below number (2 ^ 64) has.1, refl, is ∙ ap (λ (z : List ℕ). codes "outside:" ++ z) has.0)

uan_found : (text : List ℕ) (n : Name) (o : Option Uan) → canonical_uan text ≡ o → option_map name.Uan o ≡ Some n → IsNameOf text n
unfolding name_in_range name_is_spelled name_text
uan_found text n None eo e = absurd cc
uan_found text n (Some u) eo e =
    let has = uan_of_is text u eo in
    subst (IsNameOf text) (some_same (name.Uan u) n e) (refl, has.0, sym has.1)

name_by_found : (text : List ℕ) (n : Name) (a o : Option (List ℕ)) → after_prefix (codes "anon:") text ≡ a → after_prefix (codes "outside:") text ≡ o → name_by text a o ≡ Some n → IsNameOf text n
name_by_found text n (Some rest) o ea eo e =
    anon_found text rest n (number_of (until is_colon rest)) (number_of (drop 1 (from_first is_colon rest))) (prefix_is (codes "anon:") text rest ea) refl refl e
name_by_found text n None (Some digits) ea eo e = outside_found text digits n (number_of digits) (prefix_is (codes "outside:") text digits eo) refl e
name_by_found text n None None ea eo e = uan_found text n (canonical_uan text) refl e

pub name_found : (text : List ℕ) (n : Name) → name_of text ≡ Some n → IsNameOf text n
unfolding name_of
name_found text n e = name_by_found text n (after_prefix (codes "anon:") text) (after_prefix (codes "outside:") text) refl refl e
