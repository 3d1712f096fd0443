-- What is known after places were learned, one after another.
use Rattle.std.proofs.Common.{◌≡◌, ℕ, ◌<◌, ◌≤◌, Bool, true, false, cond, if◌then◌else◌, List, [], ◌∷◌, ◌++◌, Option, Some, None, refl, sym, ap, subst, ◌∙◌, arith, append-nil, append_assoc}
use Rattle.std.specs.Prelude.{nat_lt, filter_map}
use Rattle.std.specs.List.{AllByRecursion}
use Rattle.std.specs.FinMap as fm
use Rattle.std.proofs.lemmas.Bool.Decides.{nat_tests}
use Rattle.sal_value.specs.declared.name.Uan.{Uan}
use Rattle.sal_value.specs.Order.{uan_key}
use Rattle.sal_value.specs.Table.{key_cmp, key_eq, write}
use Rattle.sal_value.proofs.Tables.{get-write, same_words}
use Rattle.sal_move.specs.declared.places.Known.{Known}
use Rattle.sal_move.specs.Places.{Places, place_of, is_newer, is_news, with_place}
use Rattle.sal_move.specs.Laws.{with_places, place_for, IsFirstWithMost, IsBest, FirstPlacesWithMostMovesAreKept}

-- ---- one more place

less : (a b : ℕ) → nat_lt a b ≡ true → a < b
less a b e = grind (arith, nat_tests)

no_less : (a b : ℕ) → nat_lt a b ≡ false → b ≤ a
no_less a b e = grind (arith, nat_tests)

all_less : (ks : List Known) (m n : ℕ) → m < n → AllByRecursion (λ x. x.moves < m) ks → AllByRecursion (λ x. x.moves < n) ks
all_less [] m n lt h = tt
all_less (x ∷ ks) m n lt h = (let f : x.moves < m = h.0 in omega arith, all_less ks m n lt h.1)

all_under : (ks : List Known) (m n : ℕ) → m < n → AllByRecursion (λ x. x.moves ≤ m) ks → AllByRecursion (λ x. x.moves < n) ks
all_under [] m n lt h = tt
all_under (x ∷ ks) m n lt h = (let f : x.moves ≤ m = h.0 in omega arith, all_under ks m n lt h.1)

all_append : (P : Known → Type 0) (xs ys : List Known) → AllByRecursion P xs → AllByRecursion P ys → AllByRecursion P (xs ++ ys)
all_append P [] ys h g = g
all_append P (x ∷ xs) ys h g = (h.0, all_append P xs ys h.1 g)

better : (ps : List Known) (m k : Known) (b : Bool) → nat_lt m.moves k.moves ≡ b → IsFirstWithMost ps m → IsBest (ps ++ k ∷ []) (if b then Some k else Some m)
better ps m k true e h =
    let lt = less m.moves k.moves e in
    let P : Known → Type 0 = λ x. x.moves < k.moves in
    record {
      before = ps;
      after = [];
      stands = refl;
      fewer = subst (AllByRecursion P) (sym h.stands) (all_append P h.before (m ∷ h.after) (all_less h.before m.moves k.moves lt h.fewer) (lt, all_under h.after m.moves k.moves lt h.no_more));
      no_more = tt;
    }
better ps m k false e h = record {
  before = h.before;
  after = h.after ++ k ∷ [];
  stands = ap (λ l. l ++ k ∷ []) h.stands ∙ append_assoc h.before (m ∷ h.after) (k ∷ []);
  fewer = h.fewer;
  no_more = all_append (λ x. x.moves ≤ m.moves) h.after (k ∷ []) h.no_more (no_less m.moves k.moves e, tt);
}

one_more : (ps : List Known) (o : Option Known) (k : Known) → IsBest ps o → IsBest (ps ++ k ∷ []) (if is_newer k.moves o then Some k else o)
one_more ps None k e = record { before = []; after = []; stands = ap (λ l. l ++ k ∷ []) e; fewer = tt; no_more = tt }
one_more ps (Some m) k h = better ps m k (nat_lt m.moves k.moves) refl h

-- ---- in the table

module _ (u : Uan) where
  -- what is known of the name after a place of a name was learned
  place_after : (x : Uan × Known) (t : Places) → place_of u (with_place x.0 x.1.theatre x.1.moves t)
      ≡ (if is_newer x.1.moves (place_of x.0 t) then cond (key_eq (uan_key u) (uan_key x.0)) (Some x.1) (place_of u t) else place_of u t)
  unfolding with_place is_news
  place_after x t = at (is_newer x.1.moves (place_of x.0 t))
    where
      at : (b : Bool) → place_of u (if b then write t (uan_key x.0) (Some x.1) else t) ≡ (if b then cond (key_eq (uan_key u) (uan_key x.0)) (Some x.1) (place_of u t) else place_of u t)
      at true = get-write t (uan_key x.0) (Some x.1) (uan_key u)
      at false = refl

  module _ (x : Uan × Known) (xs : List (Uan × Known)) where
    listed : (b : Bool) → key_eq (uan_key u) (uan_key x.0) ≡ b → filter_map (place_for u) (x ∷ xs) ≡ (if b then x.1 ∷ filter_map (place_for u) xs else filter_map (place_for u) xs)
    listed true e = rw e refl
    listed false e = rw e refl

    -- the name's own place
    known_same : (t : Places) → key_eq (uan_key u) (uan_key x.0) ≡ true → place_of u (with_place x.0 x.1.theatre x.1.moves t) ≡ (if is_newer x.1.moves (place_of u t) then Some x.1 else place_of u t)
    known_same t e =
        place_after x t
        ∙ ap (λ c. if is_newer x.1.moves (place_of x.0 t) then cond c (Some x.1) (place_of u t) else place_of u t) e
        ∙ ap (λ k. if is_newer x.1.moves (fm.get t k) then Some x.1 else place_of u t) (sym (same_words (uan_key u) (uan_key x.0) e))

    -- a place of another name
    known_other : (t : Places) → key_eq (uan_key u) (uan_key x.0) ≡ false → place_of u (with_place x.0 x.1.theatre x.1.moves t) ≡ place_of u t
    known_other t e =
        place_after x t
        ∙ ap (λ c. if is_newer x.1.moves (place_of x.0 t) then cond c (Some x.1) (place_of u t) else place_of u t) e
        ∙ either (is_newer x.1.moves (place_of x.0 t))
      where
        either : (b : Bool) → (if b then place_of u t else place_of u t) ≡ place_of u t
        either true = refl
        either false = refl

  kept : (xs : List (Uan × Known)) (ps : List Known) (t : Places) → IsBest ps (place_of u t) → IsBest (ps ++ filter_map (place_for u) xs) (place_of u (with_places xs t))
  kept [] ps t h = subst (λ l. IsBest l (place_of u t)) (sym (append-nil ps)) h
  kept (x ∷ xs) ps t h = at (key_eq (uan_key u) (uan_key x.0)) refl (λ qs g. kept xs qs new g)
    where
      new : Places
      new = with_place x.0 x.1.theatre x.1.moves t

      at : (b : Bool) → key_eq (uan_key u) (uan_key x.0) ≡ b
          → ((qs : List Known) → IsBest qs (place_of u new) → IsBest (qs ++ filter_map (place_for u) xs) (place_of u (with_places xs new)))
          → IsBest (ps ++ filter_map (place_for u) (x ∷ xs)) (place_of u (with_places xs new))
      at true e rest =
          subst (λ l. IsBest l (place_of u (with_places xs new))) (append_assoc ps (x.1 ∷ []) (filter_map (place_for u) xs) ∙ ap (λ l. ps ++ l) (sym (listed x xs true e)))
          (rest (ps ++ x.1 ∷ []) (subst (IsBest (ps ++ x.1 ∷ [])) (sym (known_same x xs t e)) (one_more ps (place_of u t) x.1 h)))
      at false e rest =
          subst (λ l. IsBest l (place_of u (with_places xs new))) (ap (λ l. ps ++ l) (sym (listed x xs false e)))
          (rest ps (subst (IsBest ps) (sym (known_other x xs t e)) h))

pub first_places_kept : FirstPlacesWithMostMovesAreKept
first_places_kept xs u = kept u xs [] fm.empty (subst (IsBest []) (sym (fm.get-empty key_cmp (uan_key u))) refl)
