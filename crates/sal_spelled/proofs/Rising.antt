-- Numbers that rise, as a loop finds it out.
use Rattle.std.proofs.Common.{◌≡◌, ℕ, ◌+◌, ◌<◌, ◌≤◌, Bool, true, false, ◌&&◌, List, [], ◌∷◌, length, map, get_or, drop, Option, Some, None, refl, sym, ap, ◌∙◌, arith}
use Rattle.std.specs.Prelude.{nat_lt}
use Rattle.std.specs.List.{list_all}
use Rattle.std.proofs.lemmas.Bool.{and_parts, and_from}
use Rattle.std.proofs.lemmas.Bool.Decides.{nat_tests}
use Rattle.std.proofs.lemmas.List.{at_drop_more, at_drop_all}
use Rattle.sal_book.specs.Book.{rise}
use Rattle.sal_resident.specs.Unpacking.{is_above}

-- they rise, and are above the number before them, if there is one
abbrev pub rise_after : Option ℕ → List ℕ → Bool
rise_after None ns = rise ns
rise_after (Some n) ns = list_all (nat_lt n) ns && rise ns

-- what is above a greater number is above a smaller one
all_above : (n m : ℕ) (ms : List ℕ) → n < m → list_all (nat_lt m) ms ≡ true → list_all (nat_lt n) ms ≡ true
all_above n m [] lt h = refl
all_above n m (k ∷ ms) lt h =
    let parts = and_parts (nat_lt m k) (list_all (nat_lt m) ms) h in
    let above : nat_lt m k ≡ true = parts.0 in
    let up : nat_lt n k ≡ true = grind (arith, nat_tests) in
    and_from (nat_lt n k) (list_all (nat_lt n) ms) up (all_above n m ms lt parts.1)

and_false : (a : Bool) → a && false ≡ false
and_false true = refl
and_false false = refl

rise_more : (before : Option ℕ) (m : ℕ) (ms : List ℕ) → rise_after before (m ∷ ms) ≡ is_above before m && rise_after (Some m) ms
rise_more None m ms = refl
rise_more (Some n) m ms = at (nat_lt n m) (list_all (nat_lt m) ms) refl refl
  where
    at :
        (a b : Bool) → nat_lt n m ≡ a → list_all (nat_lt m) ms ≡ b
        → (a && list_all (nat_lt n) ms) && (b && rise ms) ≡ a && (b && rise ms)
    at false b e f = refl
    at true true e f =
        let lt : n < m = grind (arith, nat_tests) in
        ap (λ c. c && rise ms) (all_above n m ms lt f)
    at true false e f = and_false (list_all (nat_lt n) ms)

module _ {X : Type 0} (f : X → ℕ) (xs : List X) (i : ℕ) (x : X) (before : Option ℕ) where
  more : i < length xs → x ≡ get_or xs i x → rise_after before (map f (drop i xs)) ≡ is_above before (f x) && rise_after (Some (f x)) (map f (drop (i + 1) xs))
  more lt is =
      at_drop_more (λ (ys : List X). rise_after before (map f ys)) xs i x lt
      ∙ ap (λ y. rise_after before (f y ∷ map f (drop (i + 1) xs))) (sym is)
      ∙ rise_more before (f x) (map f (drop (i + 1) xs))

  -- the next one doesn't rise
  pub rise_stops : i < length xs → x ≡ get_or xs i x → is_above before (f x) ≡ false → rise_after before (map f (drop i xs)) ≡ rise (map f xs) → rise (map f xs) ≡ false
  rise_stops lt is fails left = sym left ∙ more lt is ∙ ap (λ b. b && rise_after (Some (f x)) (map f (drop (i + 1) xs))) fails

  -- it does
  pub rise_goes_on :
      i < length xs → x ≡ get_or xs i x → is_above before (f x) ≡ true → rise_after before (map f (drop i xs)) ≡ rise (map f xs)
      → rise_after (Some (f x)) (map f (drop (i + 1) xs)) ≡ rise (map f xs)
  rise_goes_on lt is rises left = sym (sym left ∙ more lt is ∙ ap (λ b. b && rise_after (Some (f x)) (map f (drop (i + 1) xs))) rises)

none_rise : (before : Option ℕ) → rise_after before [] ≡ true
none_rise None = refl
none_rise (Some n) = refl

-- nothing is left
pub rise_ends : {X : Type 0} (f : X → ℕ) (xs : List X) (i : ℕ) (before : Option ℕ) → length xs ≤ i → rise_after before (map f (drop i xs)) ≡ rise (map f xs) → rise (map f xs) ≡ true
rise_ends f xs i before le left = sym left ∙ at_drop_all (λ ys. rise_after before (map f ys)) xs i le ∙ none_rise before
