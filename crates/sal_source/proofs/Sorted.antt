-- Sorted lists: searching in them, and putting an item in.
use Rattle.std.proofs.Common.{◌≡◌, ◌⊎◌, inl, inr, ℕ, zero, suc, ◌+◌, ◌<◌, ◌≤◌, Bool, true, false, cond, ◌&&◌, T, List, [], ◌∷◌, map, length, Some, None, refl, sym, ap, subst, ◌∙◌, arith, Ordering, Less, Equal, Greater}
use Rattle.std.specs.Prelude.{slice_get}
use Rattle.std.specs.Ordering.{is_lt, is_eq, ordering_reverse}
use Rattle.std.proofs.lemmas.Option.{slice_get_past}
use Rattle.std.proofs.lemmas.Cmp.{nat_list_cmp_total}
use Rattle.std.specs.Cmp.{tied_itself}
use Rattle.std.specs.FinMap.Entries as es
use Rattle.sal_source.specs.Table.{TableKey, key_cmp, key_eq}
use Rattle.sal_source.specs.code.Lists.{first_at_key, IsFirst, IsSorted, SplitsAt}
use Rattle.sal_source.proofs.Tables.{some_is, words_tells, words_refl, same_words}

none_some : {A : Type 0} {a : A} → None ≡ Some a → ⊥
none_some e = absurd (cc)

first : (a b : Bool) → T (a && b) → T a
first true b p = tt
first false b p = p

second : (a b : Bool) → T (a && b) → T b
second true b p = p
second false b p = absurd p

pub both : (a b : Bool) → T a → T b → T (a && b)
both true b p q = q
both false b p q = p

less : (o : Ordering) → T (is_lt o) → o ≡ Less
less Less p = refl
less Equal p = absurd p
less Greater p = absurd p

pub lt : (a b : TableKey) → key_cmp a b ≡ Less → T (is_lt (key_cmp a b))
lt a b e = subst (λ r. T (is_lt r)) (sym e) tt

flipped : (a b : TableKey) → key_cmp a b ≡ Greater → key_cmp b a ≡ Less
flipped a b e = nat_list_cmp_total.antisymm b a ∙ ap ordering_reverse e

-- a key that is less, or greater, is another one
apart_less : (a b : TableKey) → key_cmp a b ≡ Less → key_eq b a ≡ false
apart_less a b e = elim (words_tells b a) [
  | inl s ↦ absurd (let f : Equal ≡ Less = sym (tied_itself nat_list_cmp_total a) ∙ ap (key_cmp a) (sym s.1) ∙ e in cc)
  | inr s ↦ s.0
]

pub apart_more : (a b : TableKey) → key_cmp a b ≡ Less → key_eq a b ≡ false
apart_more a b e = elim (words_tells a b) [
  | inl s ↦ absurd (let f : Equal ≡ Less = sym (tied_itself nat_list_cmp_total b) ∙ ap (λ x. key_cmp x b) (sym s.1) ∙ e in cc)
  | inr s ↦ s.0
]

module _ {X : Type 0} (key : X → TableKey) where
  abbrev keyed : List X → List (TableKey × X)
  keyed = map (λ x. (key x, x))

  below_get : (k : TableKey) (xs : List X) (j : ℕ) (y : X) → T (es.below_all key_cmp k (keyed xs)) → slice_get xs j ≡ Some y → key_cmp k (key y) ≡ Less
  below_get k [] j y h e = absurd (none_some e)
  below_get k (x ∷ xs) zero y h e = ap (λ z. key_cmp k (key z)) (sym (some_is e)) ∙ less _ (first _ _ h)
  below_get k (x ∷ xs) (suc j) y h e = below_get k xs j y (second _ _ h) e

  -- the keys rise
  rising : (xs : List X) (i j : ℕ) (x y : X) → IsSorted key xs → i < j → slice_get xs i ≡ Some x → slice_get xs j ≡ Some y → key_cmp (key x) (key y) ≡ Less
  rising [] i j x y s lt e f = absurd (none_some e)
  rising (z ∷ xs) zero zero x y s lt e f = absurd (omega arith)
  rising (z ∷ xs) zero (suc j) x y s lt e f = ap (λ w. key_cmp (key w) (key y)) (sym (some_is e)) ∙ below_get (key z) xs j y (first _ _ s) f
  rising (z ∷ xs) (suc i) zero x y s lt e f = absurd (omega arith)
  rising (z ∷ xs) (suc i) (suc j) x y s lt e f = rising xs i j x y (second _ _ s) (omega arith) e f

  -- ---- a binary search

  abbrev pub Below : TableKey → List X → ℕ → Type 0
  Below q xs low = (i : ℕ) (y : X) → i < low → slice_get xs i ≡ Some y → key_cmp (key y) q ≡ Less

  abbrev pub Above : TableKey → List X → ℕ → Type 0
  Above q xs high = (i : ℕ) (y : X) → high ≤ i → slice_get xs i ≡ Some y → key_cmp q (key y) ≡ Less

  pub below_none : (q : TableKey) (xs : List X) → Below q xs 0
  below_none q xs i y lt e = absurd (omega arith)

  pub above_none : (q : TableKey) (xs : List X) (n : ℕ) → n ≡ length xs → Above q xs n
  above_none q xs n same i y le e = absurd (none_some (sym (slice_get_past xs i (omega arith)) ∙ e))

  pub below_more : (q : TableKey) (xs : List X) (m : ℕ) (x : X) → IsSorted key xs → slice_get xs m ≡ Some x → key_cmp (key x) q ≡ Less → Below q xs (m + 1)
  below_more q xs m x s e l i y lt f = either (less_or i m lt)
    where
      less_or : (i m : ℕ) → i < m + 1 → (i < m) ⊎ (i ≡ m)
      less_or zero zero h = inr refl
      less_or zero (suc m) h = inl (omega arith)
      less_or (suc i) zero h = absurd (omega arith)
      less_or (suc i) (suc m) h = elim (less_or i m (omega arith)) [ inl a ↦ inl (omega arith) | inr a ↦ inr (ap suc a) ]

      either : (i < m) ⊎ (i ≡ m) → key_cmp (key y) q ≡ Less
      either (inl a) = nat_list_cmp_total.trans (key y) (key x) q (rising xs i m y x s a f e) l
      either (inr a) = ap (λ w. key_cmp (key w) q) (some_is (sym f ∙ ap (slice_get xs) a ∙ e)) ∙ l

  pub above_more : (q : TableKey) (xs : List X) (m : ℕ) (x : X) → IsSorted key xs → slice_get xs m ≡ Some x → key_cmp (key x) q ≡ Greater → Above q xs m
  above_more q xs m x s e g i y le f = either (more_or m i le)
    where
      more_or : (m i : ℕ) → m ≤ i → (m < i) ⊎ (i ≡ m)
      more_or zero zero h = inr refl
      more_or zero (suc i) h = inl (omega arith)
      more_or (suc m) zero h = absurd (omega arith)
      more_or (suc m) (suc i) h = elim (more_or m i (omega arith)) [ inl a ↦ inl (omega arith) | inr a ↦ inr (ap suc a) ]

      either : (m < i) ⊎ (i ≡ m) → key_cmp q (key y) ≡ Less
      either (inl a) = nat_list_cmp_total.trans q (key x) (key y) (flipped (key x) q g) (rising xs m i x y s a e f)
      either (inr a) = ap (λ w. key_cmp q (key w)) (some_is (sym f ∙ ap (slice_get xs) a ∙ e)) ∙ flipped (key x) q g

  -- where the halves meet
  pub splits : (q : TableKey) (xs : List X) (at high : ℕ) → high ≤ at → Below q xs at → Above q xs high → SplitsAt key q xs at
  splits q [] at high le b a = tt
  splits q (x ∷ xs) zero high le b a = a 0 x (omega arith) refl
  splits q (x ∷ xs) (suc at) high le b a = (b 0 x (omega arith) refl, splits q xs at at (omega arith) (λ i y lt e. b (suc i) y (omega arith) e) (λ i y more e. a (suc i) y (omega arith) e))

  -- the item at the key is the first one
  pub only : (q : TableKey) (xs : List X) (i : ℕ) (x : X) → IsSorted key xs → slice_get xs i ≡ Some x → key_cmp (key x) q ≡ Equal → IsFirst key q xs i x
  only q xs i x s e t =
      let is : key x ≡ q = same_words (key x) q (ap is_eq t) in
      let P : TableKey → Type 0 = λ k. IsFirst key k xs i x in
      subst P is (here xs i s e)
    where
      here : (xs : List X) (i : ℕ) → IsSorted key xs → slice_get xs i ≡ Some x → IsFirst key (key x) xs i x
      here [] i s e = absurd (none_some e)
      here (z ∷ xs) zero s e = (ap (λ w. key_eq (key x) (key w)) (some_is e) ∙ words_refl (key x), some_is e)
      here (z ∷ xs) (suc i) s e = (apart_less (key z) (key x) (below_get (key z) xs i x (first _ _ s) e), here xs i (second _ _ s) e)

  -- ---- nothing is found

  below_less : (x y : TableKey) (xs : List X) → key_cmp x y ≡ Less → T (es.below_all key_cmp y (keyed xs)) → T (es.below_all key_cmp x (keyed xs))
  below_less x y [] p h = tt
  below_less x y (z ∷ xs) p h = both _ _ (lt x (key z) (nat_list_cmp_total.trans x y (key z) p (less _ (first _ _ h)))) (below_less x y xs p (second _ _ h))

  found_below : (q : TableKey) (xs : List X) → T (es.below_all key_cmp q (keyed xs)) → first_at_key key q xs ≡ None
  found_below q [] h = refl
  found_below q (x ∷ xs) h = ap (λ b. cond b (Some x) (first_at_key key q xs)) (apart_more q (key x) (less _ (first _ _ h))) ∙ found_below q xs (second _ _ h)

  pub none_at : (q : TableKey) (xs : List X) (at : ℕ) → IsSorted key xs → SplitsAt key q xs at → first_at_key key q xs ≡ None
  none_at q [] at s p = refl
  none_at q (x ∷ xs) zero s p = ap (λ b. cond b (Some x) (first_at_key key q xs)) (apart_more q (key x) p) ∙ found_below q xs (below_less q (key x) xs p (first _ _ s))
  none_at q (x ∷ xs) (suc at) s p = ap (λ b. cond b (Some x) (first_at_key key q xs)) (apart_less (key x) q p.0) ∙ none_at q xs at (second _ _ s) p.1
