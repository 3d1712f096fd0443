-- A node is put back in its place.
use Rattle.std.proofs.Common.{◌≡◌, ℕ, zero, suc, ◌+◌, ◌<◌, Bool, true, false, cond, List, [], ◌∷◌, ◌++◌, length, map, Option, Some, None, refl, sym, ap, ◌∙◌, arith}
use Rattle.std.specs.Prelude.{if◌then◌else◌, nat_eq, find, slice_get, slice_set, ◌⊎◌}
use Rattle.std.proofs.Common.{inl, inr}
use Rattle.std.proofs.lemmas.Bool.{eqb-true, eqb-false}
use Rattle.sal_carriage.specs.Link.{Link}
use Rattle.sal_carriage.proofs.Due.{some_apart, some_same}

abbrev pub End : Type 0
End = ℕ × List Link

abbrev pub found : ℕ → List End → Option End
found m es = find (λ e. nat_eq e.0 m) es

module _ {A : Type 0} (me : A → ℕ) (links : A → List Link) where
  abbrev end_of : A → End
  end_of x = (me x, links x)

  -- each stands at the position of its number, from this one on
  abbrev pub Numbered : ℕ → List A → Type 0
  Numbered s xs = (k : ℕ) (x : A) → slice_get xs k ≡ Some x → me x ≡ s + k

  numbered_rest : (s : ℕ) (x : A) (xs : List A) → Numbered s (x ∷ xs) → Numbered (s + 1) xs
  numbered_rest s x xs h k y e = h (suc k) y e ∙ omega arith

  pub found_low : (s m : ℕ) (xs : List A) (e : End) → Numbered s xs → found m (map end_of xs) ≡ Some e → m < s + length xs
  found_low s m [] e h f = some_apart f
  found_low s m (x ∷ xs) e h f = at (found_low (s + 1) m xs e (numbered_rest s x xs h)) (nat_eq (me x) m) refl f
    where
      at : (found m (map end_of xs) ≡ Some e → m < s + 1 + length xs) → (t : Bool) → nat_eq (me x) m ≡ t
          → cond t (Some (end_of x)) (found m (map end_of xs)) ≡ Some e → m < s + suc (length xs)
      at more true is g = let own = h 0 x refl in let same = eqb-true (me x) m is in omega (arith, own, same)
      at more false is g = let less = more g in omega (arith, less)

  -- the one at position k is another one with the same number
  pub placed : (s k m : ℕ) (xs : List A) (x y : A) → Numbered s xs → slice_get xs k ≡ Some x → me y ≡ me x
      → found m (map end_of (slice_set xs k y)) ≡ (if nat_eq m (s + k) then Some (m, links y) else found m (map end_of xs))
  placed s k m [] x y h e same = some_apart e
  placed s zero m (z ∷ xs) x y h e same = at (nat_eq (me y) m) refl (nat_eq m (s + 0)) refl
    where
      own : me y ≡ s + 0
      own = same ∙ ap me (sym (some_same e)) ∙ h 0 z refl

      at : (t : Bool) → nat_eq (me y) m ≡ t → (u : Bool) → nat_eq m (s + 0) ≡ u
          → cond (nat_eq (me y) m) (Some (end_of y)) (found m (map end_of xs)) ≡ (if nat_eq m (s + 0) then Some (m, links y) else cond (nat_eq (me z) m) (Some (end_of z)) (found m (map end_of xs)))
      at true is true us =
          (λ i. cond (is i) (Some (end_of y)) (found m (map end_of xs)))
          ∙ (λ i. Some (eqb-true (me y) m is i, links y))
          ∙ (λ i. if sym us i then Some (m, links y) else cond (nat_eq (me z) m) (Some (end_of z)) (found m (map end_of xs)))
      at true is false us = absurd (eqb-false m (s + 0) us (sym (eqb-true (me y) m is) ∙ own))
      at false is true us = absurd (eqb-false (me y) m is (own ∙ sym (eqb-true m (s + 0) us)))
      at false is false us =
          (λ i. cond (is i) (Some (end_of y)) (found m (map end_of xs)))
          ∙ (λ i. cond (sym is i) (Some (end_of z)) (found m (map end_of xs)))
          ∙ (λ i. cond (nat_eq ((own ∙ sym (h 0 z refl)) i) m) (Some (end_of z)) (found m (map end_of xs)))
          ∙ (λ i. if sym us i then Some (m, links y) else cond (nat_eq (me z) m) (Some (end_of z)) (found m (map end_of xs)))
  placed s (suc k) m (z ∷ xs) x y h e same = at (placed (s + 1) k m xs x y (numbered_rest s z xs h) e same) (nat_eq (me z) m) refl (nat_eq m (s + suc k)) refl
    where
      next : s + 1 + k ≡ s + suc k
      next = omega arith

      at : found m (map end_of (slice_set xs k y)) ≡ (if nat_eq m (s + 1 + k) then Some (m, links y) else found m (map end_of xs))
          → (t : Bool) → nat_eq (me z) m ≡ t → (u : Bool) → nat_eq m (s + suc k) ≡ u
          → cond t (Some (end_of z)) (found m (map end_of (slice_set xs k y)))
          ≡ (if u then Some (m, links y) else cond t (Some (end_of z)) (found m (map end_of xs)))
      at more true is true us =
          let own = h 0 z refl in
          let a = eqb-true (me z) m is in
          let b = eqb-true m (s + suc k) us in
          absurd (omega (arith, own, a, b))
      at more true is false us = refl
      at more false is u us =
          more ∙ (λ i. if nat_eq m (next i) then Some (m, links y) else found m (map end_of xs)) ∙ (λ i. if us i then Some (m, links y) else found m (map end_of xs))

pub got_set : {A : Type 0} (xs : List A) (k j : ℕ) (x y : A) → slice_get (slice_set xs k y) j ≡ Some x → ((x ≡ y) × (j ≡ k)) ⊎ (slice_get xs j ≡ Some x)
got_set [] k j x y e = some_apart e
got_set (z ∷ xs) zero zero x y e = inl (sym (some_same e), refl)
got_set (z ∷ xs) zero (suc j) x y e = inr e
got_set (z ∷ xs) (suc k) zero x y e = inr e
got_set (z ∷ xs) (suc k) (suc j) x y e = at (got_set xs k j x y e)
  where
    at : ((x ≡ y) × (j ≡ k)) ⊎ (slice_get xs j ≡ Some x) → ((x ≡ y) × (suc j ≡ suc k)) ⊎ (slice_get xs j ≡ Some x)
    at (inl h) = inl (h.0, ap suc h.1)
    at (inr h) = inr h

pub set_length : {A : Type 0} (xs : List A) (k : ℕ) (y : A) → length (slice_set xs k y) ≡ length xs
set_length [] k y = refl
set_length (x ∷ xs) zero y = refl
set_length (x ∷ xs) (suc k) y = ap suc (set_length xs k y)

-- the first one, or else the second
abbrev pub or_else : Option End → Option End → Option End
or_else (Some e) o = Some e
or_else None o = o

pub found_append : (m : ℕ) (es fs : List End) → found m (es ++ fs) ≡ or_else (found m es) (found m fs)
found_append m [] fs = refl
found_append m (e ∷ es) fs = at (nat_eq e.0 m) (found_append m es fs)
  where
    at : (t : Bool) → found m (es ++ fs) ≡ or_else (found m es) (found m fs) → cond t (Some e) (found m (es ++ fs)) ≡ or_else (cond t (Some e) (found m es)) (found m fs)
    at true h = refl
    at false h = h
