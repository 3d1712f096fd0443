-- What a table weighs after a change.
use Rattle.std.proofs.Common.{◌≡◌, inl, inr, ℕ, ◌+◌, Bool, true, false, cond, not, ◌&&◌, T, List, [], ◌∷◌, map, Option, Some, None, refl, sym, ap, subst, ◌∙◌, arith, Ordering, Less, Equal, Greater}
use Rattle.std.specs.Ordering.{is_lt, is_eq}
use Rattle.std.proofs.lemmas.Cmp.{nat_list_cmp_total}
use Rattle.std.specs.FinMap as fm
use Rattle.std.specs.FinMap.Entries as es
use Rattle.sal_source.specs.Table.{TableKey, key_cmp, key_eq, Table, write, table_map, total, sum_values}
use Rattle.sal_source.proofs.Tables.{words_anti, words_refl, words_tells, words_apart, same_table, entries-map}

module _ {X Y : Type 0} (f : X → Y) where
  total-map : (h : Y → ℕ) (xs : List (TableKey × X)) → total (λ (e : TableKey × Y). h e.1) (map (λ e. (e.0, f e.1)) xs) ≡ total (λ (e : TableKey × X). h (f e.1)) xs
  total-map h [] = refl
  total-map h (e ∷ xs) = ap (λ n. h (f e.1) + n) (total-map h xs)

  pub weigh-map : (h : Y → ℕ) (t : Table X) → sum_values h (table_map f t) ≡ sum_values (λ x. h (f x)) t
  weigh-map h t = ap (total (λ (e : TableKey × Y). h e.1)) (entries-map f t) ∙ total-map h (fm.entries t)

abbrev pub weight_of : {X : Type 0} → (X → ℕ) → Option X → ℕ
weight_of f None = 0
weight_of f (Some x) = f x

module _ {X : Type 0} (f : X → ℕ) where
  abbrev tot : List (TableKey × X) → ℕ
  tot xs = total (λ e. f e.1) xs

  abbrev found : TableKey → List (TableKey × X) → ℕ
  found k xs = weight_of f (es.find key_cmp k xs)

first : (a b : Bool) → T (a && b) → T a
first true b p = tt
first false b p = p

second : (a b : Bool) → T (a && b) → T b
second true b p = p
second false b p = absurd p

less : (o : Ordering) → T (is_lt o) → o ≡ Less
less Less p = refl
less Equal p = absurd p
less Greater p = absurd p

module _ {X : Type 0} where
  find_below : (q : TableKey) (xs : List (TableKey × X)) → T (es.below_all key_cmp q xs) → es.find key_cmp q xs ≡ None
  find_below q [] h = refl
  find_below q (e ∷ xs) h = ap (λ r. cond (is_eq r) (Some e.1) (es.find key_cmp q xs)) (less _ (first _ _ h)) ∙ find_below q xs (second _ _ h)

  below_less : (x y : TableKey) (xs : List (TableKey × X)) → key_cmp x y ≡ Less → T (es.below_all key_cmp y xs) → T (es.below_all key_cmp x xs)
  below_less x y [] p h = tt
  below_less x y (e ∷ xs) p h =
      let here : T (is_lt (key_cmp x e.0)) = subst (λ r. T (is_lt r)) (sym (nat_list_cmp_total.trans x y e.0 p (less _ (first _ _ h)))) tt in
      let rest = below_less x y xs p (second _ _ h) in
      join (is_lt (key_cmp x e.0)) _ here rest
    where
      join : (a b : Bool) → T a → T b → T (a && b)
      join true b p q = q
      join false b p q = p

abbrev without : {X : Type 0} → TableKey → List (TableKey × X) → List (TableKey × X)
without k xs = es.where_key key_cmp (λ x. not (key_eq k x)) xs

pub words_sym : (a b : TableKey) → key_eq a b ≡ key_eq b a
words_sym a b = elim (words_tells a b) [
  | inl s ↦ s.0 ∙ sym (ap (λ c. key_eq c a) (sym s.1) ∙ words_refl a)
  | inr s ↦ s.0 ∙ sym (words_apart b a (λ e. s.1 (sym e)))
]

find-without : {X : Type 0} (k q : TableKey) (xs : List (TableKey × X)) → es.find key_cmp q (without k xs) ≡ cond (key_eq q k) None (es.find key_cmp q xs)
find-without k q xs =
    es.find-where_key key_cmp (λ x. not (key_eq k x)) q (λ x e. ap (λ y. not (key_eq k y)) (sym (words_anti q x e))) xs
    ∙ ap (λ b. cond (not b) (es.find key_cmp q xs) None) (words_sym k q)
    ∙ turned (key_eq q k) _ _
  where
    turned : {A : Type 0} (b : Bool) (x y : A) → cond (not b) x y ≡ cond b y x
    turned true x y = refl
    turned false x y = refl

pub entries-remove : {X : Type 0} (t : Table X) (k : TableKey) → fm.entries (fm.remove t k) ≡ without k (fm.entries t)
entries-remove {X} t k =
    let sorted : T (es.is_sorted key_cmp (without k (fm.entries t))) = es.is_sorted-where_key key_cmp _ (fm.entries t) (fm.entries_sorted t) in
    let same : fm.remove t k ≡ fm.from_sorted (without k (fm.entries t)) =
    same_table _ _ (λ q. fm.get-remove nat_list_cmp_total t k q ∙ sym (fm.get-from_sorted key_cmp _ q sorted ∙ find-without k q (fm.entries t) ∙ ap (cond (key_eq q k) None) (sym (fm.get-entries t q)))) in
    ap fm.entries same ∙ fm.entries-from_sorted key_cmp _ sorted

module _ {X : Type 0} (f : X → ℕ) where
  total_put : (k : TableKey) (v : X) (xs : List (TableKey × X)) → T (es.is_sorted key_cmp xs) → tot f (es.put key_cmp k v xs) + found f k xs ≡ tot f xs + f v
  total_put k v [] h = omega arith
  total_put k v (e ∷ xs) h =
      let rest : tot f (es.put key_cmp k v xs) + found f k xs ≡ tot f xs + f v = total_put k v xs (second _ _ h) in
      elim (key_cmp k e.0) as (λ (r : Ordering). key_cmp k e.0 ≡ r → tot f (es.by_order r ((k, v) ∷ e ∷ xs) ((e.0, v) ∷ xs) (e ∷ es.put key_cmp k v xs)) + weight_of f (cond (is_eq r) (Some e.1) (es.find key_cmp k xs)) ≡ (f e.1 + tot f xs) + f v) [
        | Less ↦ λ p. let none = ap (weight_of f) (find_below k xs (below_less k e.0 xs p (first _ _ h))) in omega arith
        | Equal ↦ λ p. omega arith
        | Greater ↦ λ p. omega arith
      ] refl

  total_without : (k : TableKey) (xs : List (TableKey × X)) → T (es.is_sorted key_cmp xs) → tot f (without k xs) + found f k xs ≡ tot f xs
  total_without k [] h = omega arith
  total_without k (e ∷ xs) h =
      let rest : tot f (without k xs) + found f k xs ≡ tot f xs = total_without k xs (second _ _ h) in
      elim (words_tells k e.0) [
        | inl s ↦ let none = ap (weight_of f) (find_below k xs (subst (λ q. T (es.below_all key_cmp q xs)) (sym s.1) (first _ _ h))) in
            subst (λ b. tot f (cond (not b) (e ∷ es.where_key key_cmp (λ x. not (key_eq k x)) xs) (es.where_key key_cmp (λ x. not (key_eq k x)) xs)) + weight_of f (cond b (Some e.1) (es.find key_cmp k xs)) ≡ f e.1 + tot f xs) (sym s.0) (omega arith)
        | inr s ↦ subst (λ b. tot f (cond (not b) (e ∷ es.where_key key_cmp (λ x. not (key_eq k x)) xs) (es.where_key key_cmp (λ x. not (key_eq k x)) xs)) + weight_of f (cond b (Some e.1) (es.find key_cmp k xs)) ≡ f e.1 + tot f xs) (sym s.0) (omega arith)
      ]

  -- what is written comes in the place of what was there
  pub weigh-write : (t : Table X) (k : TableKey) (o : Option X) → sum_values f (write t k o) + weight_of f (fm.get t k) ≡ sum_values f t + weight_of f o
  weigh-write t k None =
      subst (λ (ys : List (TableKey × X)). tot f ys + weight_of f (fm.get t k) ≡ sum_values f t + 0) (sym (entries-remove t k))
      (subst (λ (o : Option X). tot f (without k (fm.entries t)) + weight_of f o ≡ sum_values f t + 0) (sym (fm.get-entries t k)) (let e = total_without k (fm.entries t) (fm.entries_sorted t) in omega arith))
  weigh-write t k (Some x) =
      subst (λ (ys : List (TableKey × X)). tot f ys + weight_of f (fm.get t k) ≡ sum_values f t + f x) (sym (fm.entries-insert nat_list_cmp_total t k x))
      (subst (λ (o : Option X). tot f (es.put key_cmp k x (fm.entries t)) + weight_of f o ≡ sum_values f t + f x) (sym (fm.get-entries t k)) (total_put k x (fm.entries t) (fm.entries_sorted t)))
