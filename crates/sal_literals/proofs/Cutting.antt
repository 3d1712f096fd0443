-- Cutting texts.
use Rattle.std.proofs.Common.{◌≡◌, ℕ, ◌+◌, ◌<◌, ◌≤◌, Bool, true, false, ◌||◌, ◌==◌, Some, None, List, [], ◌∷◌, ◌++◌, length, get_or, take, drop, append_assoc, append-nil, refl, sym, ap, ◌∙◌, arith}
use Rattle.std.specs.Prelude.{if◌then◌else◌}
use Rattle.std.specs.Str.{IsUtf8, is_utf8, bytes_eq}
use Rattle.std.proofs.lemmas.List.{length-take, at_drop_more, take_more, take_all, drop_all}
use Rattle.std.proofs.lemmas.Slice.Eq.{bytes_eq-Decides}
use Rattle.sal_value.specs.Names.{until, from_first, is_colon}
use Rattle.sal_value.proofs.Utf8 as utf8
use Rattle.sal_literals.specs.Reading.{after_prefix}
use Rattle.sal_literals.specs.code.Reads.{is_either}

pub utf8_true : (bytes : List ℕ) → IsUtf8 bytes → is_utf8 bytes ≡ true
utf8_true = utf8.utf8_true

pub utf8_false : (bytes : List ℕ) → (IsUtf8 bytes → ⊥) → is_utf8 bytes ≡ false
utf8_false = utf8.utf8_false

none_unless : {A : Type 0} (b : Bool) (x : A) → (b ≡ true → ⊥) → None ≡ (if b then Some x else None)
none_unless true x no' = absurd (no' refl)
none_unless false x no' = refl

-- too short to begin with these bytes
pub prefix_short : (prefix text : List ℕ) → length text < length prefix → None ≡ after_prefix prefix text
prefix_short prefix text short =
    none_unless (bytes_eq (take (length prefix) text) prefix) (drop (length prefix) text) (λ e.
    let same : take (length prefix) text ≡ prefix = (bytes_eq-Decides (take (length prefix) text) prefix).0 e in
    omega (arith, ap length same, length-take (length prefix) text))

-- ---- before the first byte that passes a test

-- so many bytes fail it, and they stand before what else does
pub record IsBefore (test : ℕ → Bool) (xs : List ℕ) (i : ℕ) : Type 0 where
  pub front : until test xs ≡ take i xs ++ until test (drop i xs)
  pub rest : from_first test xs ≡ from_first test (drop i xs)

pub none_before : (test : ℕ → Bool) (xs : List ℕ) → IsBefore test xs 0
none_before test xs = record { front = refl; rest = refl }

here_until : (test : ℕ → Bool) (x : ℕ) (xs : List ℕ) (t : Bool) → test x ≡ t → until test (x ∷ xs) ≡ (if t then [] else x ∷ until test xs)
here_until test x xs t e = ap (λ t. if t then [] else x ∷ until test xs) e

here_rest : (test : ℕ → Bool) (x : ℕ) (xs : List ℕ) (t : Bool) → test x ≡ t → from_first test (x ∷ xs) ≡ (if t then x ∷ xs else from_first test xs)
here_rest test x xs t e = ap (λ t. if t then x ∷ xs else from_first test xs) e

next : (test : ℕ → Bool) (xs : List ℕ) (i : ℕ) → i < length xs → drop i xs ≡ get_or xs i 0 ∷ drop (i + 1) xs
next test xs i lt = at_drop_more (λ (ys : List ℕ). ys) xs i 0 lt

pub fails_more : (test : ℕ → Bool) (xs : List ℕ) (i : ℕ) → i < length xs → test (get_or xs i 0) ≡ false → IsBefore test xs i → IsBefore test xs (i + 1)
fails_more test xs i lt fails h =
    let b : ℕ = get_or xs i 0 in
    let ys : List ℕ = drop (i + 1) xs in
    record {
      front = h.front ∙ ap (λ (z : List ℕ). take i xs ++ until test z) (next test xs i lt) ∙ ap (λ (z : List ℕ). take i xs ++ z) (here_until test b ys false fails)
          ∙ sym (append_assoc (take i xs) (b ∷ []) (until test ys)) ∙ ap (λ (z : List ℕ). z ++ until test ys) (sym (take_more xs i 0 lt));
      rest = h.rest ∙ ap (from_first test) (next test xs i lt) ∙ here_rest test b ys false fails;
    }

-- a byte passes it
pub front_here : (test : ℕ → Bool) (xs : List ℕ) (i : ℕ) → i < length xs → test (get_or xs i 0) ≡ true → IsBefore test xs i → take i xs ≡ until test xs
front_here test xs i lt passes h =
    let is : until test (drop i xs) ≡ [] = ap (until test) (next test xs i lt) ∙ here_until test (get_or xs i 0) (drop (i + 1) xs) true passes in
    sym (h.front ∙ ap (λ (z : List ℕ). take i xs ++ z) is ∙ append-nil (take i xs))

pub rest_here : (test : ℕ → Bool) (xs : List ℕ) (i : ℕ) → i < length xs → test (get_or xs i 0) ≡ true → IsBefore test xs i → drop i xs ≡ from_first test xs
rest_here test xs i lt passes h =
    sym (h.rest ∙ ap (from_first test) (next test xs i lt) ∙ here_rest test (get_or xs i 0) (drop (i + 1) xs) true passes ∙ sym (next test xs i lt))

-- none does
pub all_before : (test : ℕ → Bool) (xs : List ℕ) (i : ℕ) → length xs ≤ i → IsBefore test xs i → take (length xs) xs ≡ until test xs
all_before test xs i le h =
    let none : drop i xs ≡ [] = drop_all i xs le in
    let is : until test xs ≡ xs = h.front ∙ ap (λ (z : List ℕ). take i xs ++ until test z) none ∙ append-nil (take i xs) ∙ take_all i xs le in
    take_all (length xs) xs (omega arith) ∙ sym is

pub none_after : (test : ℕ → Bool) (xs : List ℕ) (i : ℕ) → length xs ≤ i → IsBefore test xs i → drop (length xs) xs ≡ from_first test xs
none_after test xs i le h =
    let none : drop i xs ≡ [] = drop_all i xs le in
    drop_all (length xs) xs (omega arith) ∙ sym (h.rest ∙ ap (from_first test) none)

-- ---- colons

or_same : (t : Bool) → t || t ≡ t
or_same true = refl
or_same false = refl

colon_is : (b : ℕ) → is_either 58 58 b ≡ is_colon b
colon_is b = or_same (b == 58)

pub colon_until : (xs : List ℕ) → until (is_either 58 58) xs ≡ until is_colon xs
colon_until [] = refl
colon_until (x ∷ xs) =
    ap (λ t. if t then [] else x ∷ until (is_either 58 58) xs) (colon_is x) ∙ ap (λ (z : List ℕ). if is_colon x then [] else x ∷ z) (colon_until xs)

pub colon_rest : (xs : List ℕ) → from_first (is_either 58 58) xs ≡ from_first is_colon xs
colon_rest [] = refl
colon_rest (x ∷ xs) =
    ap (λ t. if t then x ∷ xs else from_first (is_either 58 58) xs) (colon_is x) ∙ ap (λ (z : List ℕ). if is_colon x then x ∷ xs else z) (colon_rest xs)
