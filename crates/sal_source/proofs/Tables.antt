-- What a table has after a change, and the list that stands for it.
use Rattle.std.proofs.Common.{◌≡◌, inl, inr, ℕ, zero, suc, ◌+◌, ◌<◌, Bool, true, false, cond, T, List, [], ◌∷◌, ◌++◌, map, take, length, is_some, Option, Some, None, refl, sym, ap, subst, ◌∙◌, arith, true≢false, get_or}
use Rattle.std.specs.Prelude.{slice_get, slice_set, remove}
use Rattle.std.specs.Option.{option_map}
use Rattle.std.proofs.lemmas.Cmp.{nat_list_cmp_total}
use Rattle.std.specs.FinMap as fm
use Rattle.std.specs.FinMap.Entries as es
use Rattle.sal_source.specs.Table.{TableKey, key_cmp, key_eq, write, table_map, table_of}
use Rattle.sal_source.specs.code.Lists.{first_at_key, IsFirst, Finds, AreDistinct}
pub use Rattle.sal_value.proofs.Tables.{some_is, words_anti, same_words, words_refl, words_tells, words_apart, same_table, get-write, entries-map, get-map}

-- ---- lists for tables

module _ {X : Type 0} (key : X → TableKey) where
  find_is : (q : TableKey) (xs : List X) → es.find key_cmp q (map (λ x. (key x, x)) xs) ≡ first_at_key key q xs
  find_is q [] = refl
  find_is q (x ∷ xs) = ap (cond (key_eq q (key x)) (Some x)) (find_is q xs)

  pub get-table_of : (xs : List X) (q : TableKey) → fm.get (table_of key xs) q ≡ first_at_key key q xs
  get-table_of xs q = fm.get-from_entries nat_list_cmp_total (map (λ x. (key x, x)) xs) q ∙ find_is q xs

  pub IsFirst-found : (q : TableKey) (xs : List X) (i : ℕ) (y : X) → IsFirst key q xs i y → first_at_key key q xs ≡ Some y
  IsFirst-found q [] i y h = absurd h
  IsFirst-found q (x ∷ xs) zero y h = rw h.0 (ap (λ z. Some z) h.1)
  IsFirst-found q (x ∷ xs) (suc i) y h = rw h.0 (IsFirst-found q xs i y h.1)

  pub IsFirst-key : (q : TableKey) (xs : List X) (i : ℕ) (y : X) → IsFirst key q xs i y → q ≡ key y
  IsFirst-key q [] i y h = absurd h
  IsFirst-key q (x ∷ xs) zero y h = same_words q (key x) h.0 ∙ ap key h.1
  IsFirst-key q (x ∷ xs) (suc i) y h = IsFirst-key q xs i y h.1

  pub IsFirst-get : (q : TableKey) (xs : List X) (i : ℕ) (y : X) → IsFirst key q xs i y → slice_get xs i ≡ Some y
  IsFirst-get q [] i y h = absurd h
  IsFirst-get q (x ∷ xs) zero y h = ap (λ z. Some z) h.1
  IsFirst-get q (x ∷ xs) (suc i) y h = IsFirst-get q xs i y h.1

  -- one more item was passed
  pub found-more : (q : TableKey) (xs : List X) (i : ℕ) (y : X) → slice_get xs i ≡ Some y → key_eq q (key y) ≡ false → first_at_key key q (take i xs) ≡ None → first_at_key key q (take (suc i) xs) ≡ None
  found-more q [] i y e f h = refl
  found-more q (x ∷ xs) zero y e f h = let s : x ≡ y = cc in rw (ap key s, f) refl
  found-more q (x ∷ xs) (suc i) y e f h = more_at q x xs i y (key_eq q (key x)) refl (found-more q xs i y e f) h
    where
      more_at : (q : TableKey) (x : X) (xs : List X) (i : ℕ) (y : X) (b : Bool) → key_eq q (key x) ≡ b →
          (first_at_key key q (take i xs) ≡ None → first_at_key key q (take (suc i) xs) ≡ None) → first_at_key key q (take (suc i) (x ∷ xs)) ≡ None → first_at_key key q (take (suc (suc i)) (x ∷ xs)) ≡ None
      more_at q x xs i y true e f h = absurd (let g : first_at_key key q (take (suc i) (x ∷ xs)) ≡ Some x = rw e refl in cc)
      more_at q x xs i y false e f h = let g : first_at_key key q (take i xs) ≡ None = rw e at h in rw e (f g)

  -- the first item at the key stands where none before has it
  pub first_here : (q : TableKey) (xs : List X) (i : ℕ) (y : X) → slice_get xs i ≡ Some y → key_eq q (key y) ≡ true → first_at_key key q (take i xs) ≡ None → IsFirst key q xs i y
  first_here q [] i y e t h = absurd (let f : None ≡ Some y = e in cc)
  first_here q (x ∷ xs) zero y e t h = let s : x ≡ y = cc in (ap (λ z. key_eq q (key z)) s ∙ t, s)
  first_here q (x ∷ xs) (suc i) y e t h = here_at q x xs i y (key_eq q (key x)) refl (first_here q xs i y e t) h
    where
      here_at : (q : TableKey) (x : X) (xs : List X) (i : ℕ) (y : X) (b : Bool) → key_eq q (key x) ≡ b →
          (first_at_key key q (take i xs) ≡ None → IsFirst key q xs i y) → first_at_key key q (take (suc i) (x ∷ xs)) ≡ None → (key_eq q (key x) ≡ false) × IsFirst key q xs i y
      here_at q x xs i y true e f h = absurd (let g : first_at_key key q (take (suc i) (x ∷ xs)) ≡ Some x = rw e refl in cc)
      here_at q x xs i y false e f h = let g : first_at_key key q (take i xs) ≡ None = rw e at h in (e, f g)

  -- ---- changes of a list

  swap : {A : Type 0} (a b : Bool) (u v w : A) → (a ≡ true → b ≡ true → ⊥) → cond a u (cond b v w) ≡ cond b v (cond a u w)
  swap true true u v w h = absurd (h refl refl)
  swap true false u v w h = refl
  swap false b u v w h = refl

  apart : (q a b : TableKey) → key_eq b a ≡ false → key_eq q a ≡ true → key_eq q b ≡ true → ⊥
  apart q a b differ p r = true≢false (sym (words_refl b) ∙ ap (key_eq b) (sym (same_words q b r) ∙ same_words q a p) ∙ differ)

  -- the item at the key is another one
  pub found-set : (q : TableKey) (xs : List X) (i : ℕ) (x' y : X) → IsFirst key (key x') xs i y → first_at_key key q (slice_set xs i x') ≡ cond (key_eq q (key x')) (Some x') (first_at_key key q xs)
  found-set q [] i x' y h = absurd h
  found-set q (x ∷ xs) zero x' y h = over (key_eq q (key x')) (key_eq q (key x)) (Some x') (Some x) (first_at_key key q xs) (ap (key_eq q) (same_words (key x') (key x) h.0))
    where
      over : {A : Type 0} (a b : Bool) (u v w : A) → a ≡ b → cond a u w ≡ cond a u (cond b v w)
      over true b u v w e = refl
      over false true u v w e = absurd (true≢false (sym e))
      over false false u v w e = refl
  found-set q (x ∷ xs) (suc i) x' y h =
      ap (cond (key_eq q (key x)) (Some x)) (found-set q xs i x' y h.1)
      ∙ swap (key_eq q (key x)) (key_eq q (key x')) (Some x) (Some x') (first_at_key key q xs) (λ p r. apart q (key x) (key x') h.0 p r)

  -- the item at the key is gone
  pub found-remove : (q k : TableKey) (xs : List X) (i : ℕ) (y : X) → AreDistinct key xs → IsFirst key k xs i y → first_at_key key q (remove xs i) ≡ cond (key_eq q k) None (first_at_key key q xs)
  found-remove q k [] i y d h = absurd h
  found-remove q k (x ∷ xs) zero y d h = gone (key_eq q k) refl
    where
      gone : (b : Bool) → key_eq q k ≡ b → first_at_key key q xs ≡ cond b None (cond (key_eq q (key x)) (Some x) (first_at_key key q xs))
      gone true e = ap (λ z. first_at_key key z xs) (same_words q k e ∙ same_words k (key x) h.0) ∙ d.0
      gone false e = sym (ap (λ b. cond b (Some x) (first_at_key key q xs)) (sym (ap (key_eq q) (same_words k (key x) h.0)) ∙ e))
  found-remove q k (x ∷ xs) (suc i) y d h =
      ap (cond (key_eq q (key x)) (Some x)) (found-remove q k xs i y d.1 h.1)
      ∙ swap (key_eq q (key x)) (key_eq q k) (Some x) None (first_at_key key q xs) (λ p r. apart q (key x) k h.0 p r)

  not_here : (q : TableKey) (x : X) (xs : List X) → first_at_key key q (x ∷ xs) ≡ None → key_eq q (key x) ≡ false
  not_here q x xs h = none_at (key_eq q (key x)) h
    where
      none_at : (b : Bool) → cond b (Some x) (first_at_key key q xs) ≡ None → b ≡ false
      none_at true e = absurd (let f : Some x ≡ None = e in cc)
      none_at false e = refl

  not_later : (q : TableKey) (x : X) (xs : List X) → first_at_key key q (x ∷ xs) ≡ None → first_at_key key q xs ≡ None
  not_later q x xs h = sym (ap (λ b. cond b (Some x) (first_at_key key q xs)) (not_here q x xs h)) ∙ h

  -- an item at a new key stands at the end
  pub found-push : (q : TableKey) (xs : List X) (x' : X) → first_at_key key (key x') xs ≡ None → first_at_key key q (xs ++ x' ∷ []) ≡ cond (key_eq q (key x')) (Some x') (first_at_key key q xs)
  found-push q [] x' h = refl
  found-push q (x ∷ xs) x' h =
      ap (cond (key_eq q (key x)) (Some x)) (found-push q xs x' (not_later (key x') x xs h))
      ∙ swap (key_eq q (key x)) (key_eq q (key x')) (Some x) (Some x') (first_at_key key q xs) (λ p r. apart q (key x) (key x') (not_here (key x') x xs h) p r)

  words_sym : (a b : TableKey) → key_eq a b ≡ false → key_eq b a ≡ false
  words_sym a b h = elim (words_tells b a) [ inl s ↦ absurd (true≢false (sym (words_refl a) ∙ ap (key_eq a) (sym s.1) ∙ h)) | inr s ↦ s.0 ]

  pub AreDistinct-remove : (k : TableKey) (xs : List X) (i : ℕ) (y : X) → AreDistinct key xs → IsFirst key k xs i y → AreDistinct key (remove xs i)
  AreDistinct-remove k [] i y d h = absurd h
  AreDistinct-remove k (x ∷ xs) zero y d h = d.1
  AreDistinct-remove k (x ∷ xs) (suc i) y d h =
      (found-remove (key x) k xs i y d.1 h.1 ∙ ap (cond (key_eq (key x) k) None) d.0 ∙ none_both (key_eq (key x) k), AreDistinct-remove k xs i y d.1 h.1)
    where
      none_both : (b : Bool) → cond {A = Option X} b None None ≡ None
      none_both true = refl
      none_both false = refl

  pub AreDistinct-set : (xs : List X) (i : ℕ) (x' y : X) → AreDistinct key xs → IsFirst key (key x') xs i y → AreDistinct key (slice_set xs i x')
  AreDistinct-set [] i x' y d h = absurd h
  AreDistinct-set (x ∷ xs) zero x' y d h = (ap (λ k. first_at_key key k xs) (same_words (key x') (key x) h.0) ∙ d.0, d.1)
  AreDistinct-set (x ∷ xs) (suc i) x' y d h =
      (found-set (key x) xs i x' y h.1 ∙ ap (λ b. cond b (Some x') (first_at_key key (key x) xs)) (words_sym (key x') (key x) h.0) ∙ d.0, AreDistinct-set xs i x' y d.1 h.1)

  pub AreDistinct-push : (xs : List X) (x' : X) → AreDistinct key xs → first_at_key key (key x') xs ≡ None → AreDistinct key (xs ++ x' ∷ [])
  AreDistinct-push [] x' d h = (refl, tt)
  AreDistinct-push (x ∷ xs) x' d h =
      (found-push (key x) xs x' (not_later (key x') x xs h) ∙ ap (λ b. cond b (Some x') (first_at_key key (key x) xs)) (words_sym (key x') (key x) (not_here (key x') x xs h)) ∙ d.0, AreDistinct-push xs x' d.1 (not_later (key x') x xs h))

  -- ---- and of its table

  pub table-set : (xs : List X) (i : ℕ) (x' y : X) → IsFirst key (key x') xs i y → table_of key (slice_set xs i x') ≡ write (table_of key xs) (key x') (Some x')
  table-set xs i x' y h = same_table _ _ (λ q. get-table_of (slice_set xs i x') q ∙ found-set q xs i x' y h ∙ ap (cond (key_eq q (key x')) (Some x')) (sym (get-table_of xs q)) ∙ sym (get-write (table_of key xs) (key x') (Some x') q))

  pub table-remove : (k : TableKey) (xs : List X) (i : ℕ) (y : X) → AreDistinct key xs → IsFirst key k xs i y → table_of key (remove xs i) ≡ write (table_of key xs) k None
  table-remove k xs i y d h = same_table _ _ (λ q. get-table_of (remove xs i) q ∙ found-remove q k xs i y d h ∙ ap (cond (key_eq q k) None) (sym (get-table_of xs q)) ∙ sym (get-write (table_of key xs) k None q))

  pub table-push : (xs : List X) (x' : X) → first_at_key key (key x') xs ≡ None → table_of key (xs ++ x' ∷ []) ≡ write (table_of key xs) (key x') (Some x')
  table-push xs x' h = same_table _ _ (λ q. get-table_of (xs ++ x' ∷ []) q ∙ found-push q xs x' h ∙ ap (cond (key_eq q (key x')) (Some x')) (sym (get-table_of xs q)) ∙ sym (get-write (table_of key xs) (key x') (Some x') q))

  module _ (f : X → X) (same : (x : X) → key (f x) ≡ key x) where
    pub found-each : (q : TableKey) (xs : List X) → first_at_key key q (map f xs) ≡ option_map f (first_at_key key q xs)
    found-each q [] = refl
    found-each q (x ∷ xs) = ap (λ k. cond (key_eq q k) (Some (f x)) (first_at_key key q (map f xs))) (same x) ∙ ap (cond (key_eq q (key x)) (Some (f x))) (found-each q xs) ∙ turned (key_eq q (key x)) (first_at_key key q xs)
      where
        turned : (b : Bool) (o : Option X) → cond b (Some (f x)) (option_map f o) ≡ option_map f (cond b (Some x) o)
        turned true o = refl
        turned false o = refl

    pub AreDistinct-each : (xs : List X) → AreDistinct key xs → AreDistinct key (map f xs)
    AreDistinct-each [] d = tt
    AreDistinct-each (x ∷ xs) d = (ap (λ k. first_at_key key k (map f xs)) (same x) ∙ found-each (key x) xs ∙ ap (option_map f) d.0, AreDistinct-each xs d.1)

    pub table-each : (xs : List X) → table_of key (map f xs) ≡ table_map f (table_of key xs)
    table-each xs = same_table _ _ (λ q. get-table_of (map f xs) q ∙ found-each q xs ∙ ap (option_map f) (sym (get-table_of xs q)) ∙ sym (get-map f (table_of key xs) q))

  -- as many values as items
  pub len-table_of : (xs : List X) → AreDistinct key xs → fm.len (table_of key xs) ≡ length xs
  len-table_of [] d = fm.len-empty key_cmp X
  len-table_of (x ∷ xs) d =
      fm.len-insert nat_list_cmp_total (table_of key xs) (key x) x
      ∙ ap (λ o. cond (is_some o) (fm.len (table_of key xs)) (fm.len (table_of key xs) + 1)) (get-table_of xs (key x) ∙ d.0)
      ∙ (let e : fm.len (table_of key xs) ≡ length xs = len-table_of xs d.1 in omega arith)

  -- ---- sorted lists

  abbrev pub keyed : List X → List (TableKey × X)
  keyed = map (λ x. (key x, x))

  -- the items of a sorted list are the table's values in their order
  pub values-table_of : (xs : List X) → T (es.is_sorted key_cmp (keyed xs)) → map (λ e. e.1) (fm.entries (table_of key xs)) ≡ xs
  values-table_of xs s =
      let is : table_of key xs ≡ fm.from_sorted (keyed xs) = same_table _ _ (λ q. fm.get-from_entries nat_list_cmp_total (keyed xs) q ∙ sym (fm.get-from_sorted key_cmp (keyed xs) q s)) in
      ap (λ t. map (λ e. e.1) (fm.entries t)) is ∙ ap (map (λ e. e.1)) (fm.entries-from_sorted key_cmp (keyed xs) s) ∙ unkeyed xs
    where
      unkeyed : (xs : List X) → map (λ e. e.1) (keyed xs) ≡ xs
      unkeyed [] = refl
      unkeyed (x ∷ xs) = ap (λ ys. x ∷ ys) (unkeyed xs)

  -- ---- what a search by the code found

  first_is : (q : TableKey) (xs : List X) (i : ℕ) (y z : X) → IsFirst key q xs i y → slice_get xs i ≡ Some z → IsFirst key q xs i z
  first_is q xs i y z h e = let s : y ≡ z = some_is (sym (IsFirst-get q xs i y h) ∙ e) in let P : X → Type 0 = λ w. IsFirst key q xs i w in subst P s h

  pub Finds-first : (q : TableKey) (xs : List X) (i : ℕ) (z : X) → Finds key q xs (Some i) → slice_get xs i ≡ Some z → IsFirst key q xs i z
  Finds-first q xs i z h e = first_is q xs i h.0 z h.1 e

  pub IsFirst-table : (q : TableKey) (xs : List X) (i : ℕ) (y : X) → IsFirst key q xs i y → fm.get (table_of key xs) q ≡ Some y
  IsFirst-table q xs i y h = get-table_of xs q ∙ IsFirst-found q xs i y h

  pub none-table : (q : TableKey) (xs : List X) → first_at_key key q xs ≡ None → fm.get (table_of key xs) q ≡ None
  none-table q xs h = get-table_of xs q ∙ h

-- an index within a list gets the item there
pub slice_get_is : {X : Type 0} (xs : List X) (i : ℕ) (x : X) → i < length xs → x ≡ get_or xs i x → slice_get xs i ≡ Some x
slice_get_is [] i x lt e = absurd (omega arith)
slice_get_is (y ∷ ys) zero x lt e = ap (λ z. Some z) (sym e)
slice_get_is (y ∷ ys) (suc i) x lt e = slice_get_is ys i x (omega arith) e
