-- What stands first at a key in lists that are put together.
use Rattle.std.proofs.Common.{◌≡◌, ◌≢◌, ℕ, ◌<◌, Bool, true, false, not, cond, List, [], ◌∷◌, ◌++◌, map, Option, Some, None, refl, sym, ap, ◌∙◌, ◌⊎◌, inl, inr, arith, true≢false}
use Rattle.std.specs.Prelude.{filter, nat_lt}
use Rattle.std.specs.List.{list_all}
use Rattle.std.proofs.lemmas.Bool.{and_parts, ltb-true}
use Rattle.sal_source.specs.Table.{TableKey, key_eq}
use Rattle.sal_source.specs.code.Lists.{first_at_key, AreDistinct}
use Rattle.sal_source.proofs.Tables.{same_words, words_refl, words_apart}
use Rattle.sal_book.specs.Book.{rise}

pub bool_cases : (b : Bool) → (b ≡ true) ⊎ (b ≡ false)
bool_cases true = inl refl
bool_cases false = inr refl

-- two tests that can't both hold may be made in either order
pub swap : {A : Type 0} (a b : Bool) (u v w : A) → (a ≡ true → b ≡ true → ⊥) → cond a u (cond b v w) ≡ cond b v (cond a u w)
swap true true u v w h = absurd (h refl refl)
swap true false u v w h = refl
swap false b u v w h = refl

-- one key isn't two
pub not_both : (q a b : TableKey) → key_eq a b ≡ false → key_eq q b ≡ true → key_eq q a ≡ true → ⊥
not_both q a b differ p r = true≢false (sym (words_refl b) ∙ ap (λ k. key_eq k b) (sym (same_words q b p) ∙ same_words q a r) ∙ differ)

module _ {X : Type 0} (key : X → TableKey) where
  pub head_none : (q : TableKey) (x : X) (xs : List X) → first_at_key key q (x ∷ xs) ≡ None → key_eq q (key x) ≡ false
  head_none q x xs h = at (key_eq q (key x)) h
    where
      at : (b : Bool) → cond b (Some x) (first_at_key key q xs) ≡ None → b ≡ false
      at true e = absurd (let f : Some x ≡ None = e in cc)
      at false e = refl

  pub tail_none : (q : TableKey) (x : X) (xs : List X) → first_at_key key q (x ∷ xs) ≡ None → first_at_key key q xs ≡ None
  tail_none q x xs h = sym (ap (λ b. cond b (Some x) (first_at_key key q xs)) (head_none q x xs h)) ∙ h

  -- an item whose key none before it has may stand in front of them
  to_front : (q : TableKey) (x : X) (before after : List X) → first_at_key key (key x) before ≡ None
      → first_at_key key q (before ++ x ∷ after) ≡ cond (key_eq q (key x)) (Some x) (first_at_key key q (before ++ after))
  to_front q x [] after h = refl
  to_front q x (y ∷ before) after h =
      ap (cond (key_eq q (key y)) (Some y)) (to_front q x before after (tail_none (key x) y before h))
      ∙ swap (key_eq q (key y)) (key_eq q (key x)) (Some y) (Some x) (first_at_key key q (before ++ after)) (λ p r. not_both q (key x) (key y) (head_none (key x) y before h) p r)

  none_kept : (q : TableKey) (p : X → Bool) (xs : List X) → first_at_key key q xs ≡ None → first_at_key key q (filter p xs) ≡ None
  none_kept q p [] h = refl
  none_kept q p (x ∷ xs) h = at (p x) (head_none q x xs h) (none_kept q p xs (tail_none q x xs h))
    where
      at : (b : Bool) → key_eq q (key x) ≡ false → first_at_key key q (filter p xs) ≡ None → first_at_key key q (cond b (x ∷ filter p xs) (filter p xs)) ≡ None
      at true e rest = ap (λ b. cond b (Some x) (first_at_key key q (filter p xs))) e ∙ rest
      at false e rest = rest

  -- a list whose keys differ may be parted
  pub parted : (q : TableKey) (p : X → Bool) (xs more : List X) → AreDistinct key xs
      → first_at_key key q (xs ++ more) ≡ first_at_key key q (filter (λ x. not (p x)) xs ++ (filter p xs ++ more))
  parted q p [] more d = refl
  parted q p (x ∷ xs) more d = at (p x) (parted q p xs more d.1)
    where
      at : (b : Bool) → first_at_key key q (xs ++ more) ≡ first_at_key key q (filter (λ x. not (p x)) xs ++ (filter p xs ++ more))
          → cond (key_eq q (key x)) (Some x) (first_at_key key q (xs ++ more))
          ≡ first_at_key key q (cond (not b) (x ∷ filter (λ x. not (p x)) xs) (filter (λ x. not (p x)) xs) ++ (cond b (x ∷ filter p xs) (filter p xs) ++ more))
      at true rest =
          ap (cond (key_eq q (key x)) (Some x)) rest
          ∙ sym (to_front q x (filter (λ x. not (p x)) xs) (filter p xs ++ more) (none_kept (key x) (λ x. not (p x)) xs d.0))
      at false rest = ap (cond (key_eq q (key x)) (Some x)) rest

-- keys of numbers that rise are different
module _ {X : Type 0} (number : X → ℕ) (rest : X → TableKey) where
  abbrev numbered : X → TableKey
  numbered x = number x ∷ rest x

  pub none_above : (n : ℕ) (k : TableKey) (xs : List X) → list_all (nat_lt n) (map number xs) ≡ true → first_at_key numbered (n ∷ k) xs ≡ None
  none_above n k [] h = refl
  none_above n k (x ∷ xs) h =
      let parts = and_parts (nat_lt n (number x)) (list_all (nat_lt n) (map number xs)) h in
      let above : n < number x = ltb-true n (number x) parts.0 in
      let other : (n ∷ k) ≢ (number x ∷ rest x) = λ e. let same : n ≡ number x = cc in omega arith in
      ap (λ b. cond b (Some x) (first_at_key numbered (n ∷ k) xs)) (words_apart (n ∷ k) (number x ∷ rest x) other) ∙ none_above n k xs parts.1

  pub rising_distinct : (xs : List X) → rise (map number xs) ≡ true → AreDistinct numbered xs
  rising_distinct [] h = tt
  rising_distinct (x ∷ xs) h =
      let parts = and_parts (list_all (nat_lt (number x)) (map number xs)) (rise (map number xs)) h in
      (none_above (number x) (rest x) xs parts.0, rising_distinct xs parts.1)
