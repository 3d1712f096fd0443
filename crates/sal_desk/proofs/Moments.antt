-- Delayed messages by moment, as a stable sort gives them.
use Rattle.std.proofs.Common.{◌≡◌, ℕ, zero, suc, ◌<◌, ◌≤◌, Bool, true, false, cond, ◌||◌, if◌then◌else◌, List, [], ◌∷◌, length, get_or, filter, nat_le, nat_cmp, is_lt, refl, sym, ap, ◌∙◌, arith, inl, inr, suc-le-suc, zero-le}
use Rattle.std.specs.Prelude.{not}
use Rattle.std.proofs.lemmas.Bool.{cond-true, cond-false, cases_Bool}
use Rattle.std.proofs.lemmas.Bool.Decides.{nat_tests}
use Rattle.std.specs.List.{list_any}
use Rattle.std.specs.List.Sorted.{ties, IsNonDecreasingBy, IsStableByKey}
use Rattle.sal_mail.specs.declared.message.Message.{Message}
use Rattle.sal_routing.specs.Turns.{put_by_moment, by_moment, is_none}

put_some : (x : ℕ × Message) (ys : List (ℕ × Message)) → is_none (put_by_moment x ys) ≡ false
put_some x [] = refl
put_some x (y ∷ ys) = at (nat_le x.0 y.0)
  where
    at : (b : Bool) → is_none (if b then x ∷ y ∷ ys else y ∷ put_by_moment x ys) ≡ false
    at true = refl
    at false = refl

-- some pass the test
pub any_by_moment : (p : ℕ × Message → Bool) (xs : List (ℕ × Message)) → list_any p xs ≡ not (is_none (by_moment (filter p xs)))
unfolding by_moment
any_by_moment p [] = refl
any_by_moment p (x ∷ xs) = at (p x) (any_by_moment p xs)
  where
    at : (b : Bool) → list_any p xs ≡ not (is_none (by_moment (filter p xs))) → (b || list_any p xs) ≡ not (is_none (by_moment (cond b (x ∷ filter p xs) (filter p xs))))
    at true rest = sym (ap not (put_some x (by_moment (filter p xs))))
    at false rest = rest

-- ---- a stable sort

abbrev same_moment : ℕ × Message → ℕ × Message → Bool
same_moment = ties (λ x y. is_lt (nat_cmp x.0 y.0))

ties_at : (m n : ℕ) → (ties (λ x y. is_lt (nat_cmp x y)) m n ≡ true → m ≡ n) × (m ≡ n → ties (λ x y. is_lt (nat_cmp x y)) m n ≡ true)
ties_at m n = (λ h. grind (arith, nat_tests), λ h. grind (arith, nat_tests))

same-true : (x y : ℕ × Message) → same_moment x y ≡ true → x.0 ≡ y.0
same-true x y = (ties_at x.0 y.0).0

same_from : (x y : ℕ × Message) → x.0 ≡ y.0 → same_moment x y ≡ true
same_from x y = (ties_at x.0 y.0).1

le-true : (m n : ℕ) → nat_le m n ≡ true → m ≤ n
le-true m n h = grind (arith, nat_tests)

le-false : (m n : ℕ) → nat_le m n ≡ false → n < m
le-false m n h = grind (arith, nat_tests)

kept : (p : ℕ × Message → Bool) (y : ℕ × Message) (ys : List (ℕ × Message)) → p y ≡ true → filter p (y ∷ ys) ≡ y ∷ filter p ys
kept p y ys h = cond-true _ _ _ h

dropped : (p : ℕ × Message → Bool) (y : ℕ × Message) (ys : List (ℕ × Message)) → p y ≡ false → filter p (y ∷ ys) ≡ filter p ys
dropped p y ys h = cond-false _ _ _ h

filter-put : (x c : ℕ × Message) (ds : List (ℕ × Message)) → filter (same_moment x) (put_by_moment c ds) ≡ filter (same_moment x) (c ∷ ds)
filter-put x c [] = refl
filter-put x c (d ∷ ds) = at (nat_le c.0 d.0) refl (filter-put x c ds)
  where
    p : ℕ × Message → Bool
    p = same_moment x

    past : d.0 < c.0 → filter p (put_by_moment c ds) ≡ filter p (c ∷ ds) → filter p (d ∷ put_by_moment c ds) ≡ filter p (c ∷ d ∷ ds)
    past lt rest = elim (cases_Bool (p d)) [
      | inr without ↦
          dropped p d (put_by_moment c ds) without ∙ rest
          ∙ ap (λ l. cond (p c) (c ∷ l) l) (sym (dropped p d ds without))
      | inl with ↦
          elim (cases_Bool (p c)) [
            | inl both ↦ absurd (omega (arith, lt, same-true x c both, same-true x d with))
            | inr only ↦
                kept p d (put_by_moment c ds) with ∙ ap (λ l. d ∷ l) (rest ∙ dropped p c ds only)
                ∙ sym (dropped p c (d ∷ ds) only ∙ kept p d ds with)
          ]
    ]

    at : (b : Bool) → nat_le c.0 d.0 ≡ b → filter p (put_by_moment c ds) ≡ filter p (c ∷ ds) → filter p (if b then c ∷ d ∷ ds else d ∷ put_by_moment c ds) ≡ filter p (c ∷ d ∷ ds)
    at true is rest = refl
    at false is rest = past (le-false c.0 d.0 is) rest

filter-by_moment : (x : ℕ × Message) (cs : List (ℕ × Message)) → filter (same_moment x) (by_moment cs) ≡ filter (same_moment x) cs
unfolding by_moment
filter-by_moment x [] = refl
filter-by_moment x (c ∷ cs) = filter-put x c (by_moment cs) ∙ ap (λ l. cond (same_moment x c) (c ∷ l) l) (filter-by_moment x cs)

abbrev AreAtLeast : ℕ → List (ℕ × Message) → Type 0
AreAtLeast n [] = Unit {0}
AreAtLeast n (y ∷ ys) = (n ≤ y.0) × AreAtLeast n ys

abbrev Rises : List (ℕ × Message) → Type 0
Rises [] = Unit {0}
Rises (y ∷ ys) = AreAtLeast y.0 ys × Rises ys

AreAtLeast-le : (n m : ℕ) (ys : List (ℕ × Message)) → n ≤ m → AreAtLeast m ys → AreAtLeast n ys
AreAtLeast-le n m [] le h = tt
AreAtLeast-le n m (y ∷ ys) le h = let first = h.0 in (omega arith, AreAtLeast-le n m ys le h.1)

AreAtLeast-at : (n : ℕ) (ys : List (ℕ × Message)) → ((j : ℕ) (d : ℕ × Message) → j < length ys → n ≤ (get_or ys j d).0) → AreAtLeast n ys
AreAtLeast-at n [] h = tt
AreAtLeast-at n (y ∷ ys) h = (h zero y (suc-le-suc zero-le), AreAtLeast-at n ys (λ j d lt. h (suc j) d (suc-le-suc lt)))

Rises-from_sort : (ys : List (ℕ × Message)) → IsNonDecreasingBy (λ x. x.0) ys → Rises ys
Rises-from_sort [] h = tt
Rises-from_sort (y ∷ ys) h = (
  AreAtLeast-at y.0 ys (λ j d lt. h zero (suc j) d zero-le (suc-le-suc lt)),
  Rises-from_sort ys (λ i j d le lt. h (suc i) (suc j) d (suc-le-suc le) (suc-le-suc lt)),
)

put-at_least : (n : ℕ) (x : ℕ × Message) (ys : List (ℕ × Message)) → n ≤ x.0 → AreAtLeast n ys → AreAtLeast n (put_by_moment x ys)
put-at_least n x [] le h = (le, tt)
put-at_least n x (y ∷ ys) le h = at (nat_le x.0 y.0) (put-at_least n x ys le h.1)
  where
    at : (b : Bool) → AreAtLeast n (put_by_moment x ys) → AreAtLeast n (if b then x ∷ y ∷ ys else y ∷ put_by_moment x ys)
    at true rest = (le, h)
    at false rest = (h.0, rest)

put-rises : (x : ℕ × Message) (ys : List (ℕ × Message)) → Rises ys → Rises (put_by_moment x ys)
put-rises x [] h = (tt, tt)
put-rises x (y ∷ ys) h = at (nat_le x.0 y.0) refl (put-rises x ys h.1)
  where
    le-lt : (m n : ℕ) → n < m → n ≤ m
    le-lt m n lt = omega (arith, lt)

    at : (b : Bool) → nat_le x.0 y.0 ≡ b → Rises (put_by_moment x ys) → Rises (if b then x ∷ y ∷ ys else y ∷ put_by_moment x ys)
    at true is rest = ((le-true x.0 y.0 is, AreAtLeast-le x.0 y.0 ys (le-true x.0 y.0 is) h.0), h)
    at false is rest = (put-at_least y.0 x ys (le-lt x.0 y.0 (le-false x.0 y.0 is)) h.0, rest)

by_moment-rises : (xs : List (ℕ × Message)) → Rises (by_moment xs)
unfolding by_moment
by_moment-rises [] = tt
by_moment-rises (x ∷ xs) = put-rises x (by_moment xs) (by_moment-rises xs)

-- the moment of x occurs among them
found : (n : ℕ) (x : ℕ × Message) (ys : List (ℕ × Message)) (w : ℕ × Message) (ws : List (ℕ × Message)) → AreAtLeast n ys → filter (same_moment x) ys ≡ w ∷ ws → n ≤ x.0
found n x [] w ws h e = cc
found n x (y ∷ ys) w ws h e =
    elim (cases_Bool (same_moment x y)) [
      | inl with ↦ omega (arith, h.0, same-true x y with)
      | inr without ↦ found n x ys w ws h.1 (sym (dropped (same_moment x) y ys without) ∙ e)
    ]

same_lists : (ys zs : List (ℕ × Message)) → Rises ys → Rises zs → ((x : ℕ × Message) → filter (same_moment x) ys ≡ filter (same_moment x) zs) → ys ≡ zs
same_lists [] [] left right same = refl
same_lists [] (z ∷ zs) left right same =
    let clash = same z ∙ kept (same_moment z) z zs (same_from z z refl) in cc
same_lists (y ∷ ys) [] left right same =
    let clash = sym (same y) ∙ kept (same_moment y) y ys (same_from y y refl) in cc
same_lists (y ∷ ys) (z ∷ zs) left right same =
    let at_y = kept (same_moment y) y ys (same_from y y refl) in
    let at_z = kept (same_moment z) z zs (same_from z z refl) in
    let up = found z.0 y (z ∷ zs) y _ (omega arith, right.0) (sym (same y) ∙ at_y) in
    let down = found y.0 z (y ∷ ys) z _ (omega arith, left.0) (same z ∙ at_z) in
    let heads = sym at_y ∙ same y ∙ kept (same_moment y) z zs (same_from y z (omega arith)) in
    let head : y ≡ z = cc in
    let tails : (x : ℕ × Message) → filter (same_moment x) ys ≡ filter (same_moment x) zs =
    λ x. elim (cases_Bool (same_moment x y)) [
      | inl with ↦
          let both = sym (kept (same_moment x) y ys with) ∙ same x ∙ kept (same_moment x) z zs (ap (same_moment x) (sym head) ∙ with) in cc
      | inr without ↦
          sym (dropped (same_moment x) y ys without) ∙ same x ∙ dropped (same_moment x) z zs (ap (same_moment x) (sym head) ∙ without)
    ] in
    ap (λ w. w ∷ ys) head ∙ ap (λ l. z ∷ l) (same_lists ys zs left.1 right.1 tails)

pub by_moment-from_sort : (xs ys : List (ℕ × Message)) → IsNonDecreasingBy (λ x. x.0) ys → IsStableByKey (λ x. x.0) nat_cmp xs ys → ys ≡ by_moment xs
by_moment-from_sort xs ys sorted stable =
    same_lists ys (by_moment xs) (Rises-from_sort ys sorted) (by_moment-rises xs) (λ x. stable x ∙ sym (filter-by_moment x xs))
