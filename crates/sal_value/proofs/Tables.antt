-- What a table has after a change.
use Rattle.std.proofs.Common.{◌≡◌, ◌≢◌, ◌⊎◌, inl, inr, Bool, true, false, cond, ◌&&◌, T, List, [], ◌∷◌, map, Option, Some, None, refl, sym, ap, ◌∙◌, true≢false}
use Rattle.std.specs.Option.{option_map}
use Rattle.std.specs.Ordering.{is_eq, is_lt}
use Rattle.std.specs.Cmp.{Equal-is, tied_itself}
use Rattle.std.proofs.lemmas.Cmp.{nat_list_cmp_total}
use Rattle.std.specs.FinMap as fm
use Rattle.std.specs.FinMap.Entries as es
use Rattle.sal_value.specs.Table.{TableKey, key_cmp, key_eq, Table, write, table_map}

pub some_is : {A : Type 0} {a b : A} → Some a ≡ Some b → a ≡ b
some_is e = cc

pub words_anti : fm.IsAntisymmetric key_cmp
words_anti = fm.slice_cmp-IsAntisymmetric fm.nat_cmp-IsAntisymmetric

pub same_words : (a b : TableKey) → key_eq a b ≡ true → a ≡ b
same_words a b e = words_anti a b ((Equal-is (key_cmp a b)).0 e)

pub words_refl : (a : TableKey) → key_eq a a ≡ true
words_refl a = ap is_eq (tied_itself nat_list_cmp_total a)

pub words_tells : (a b : TableKey) → ((key_eq a b ≡ true) × (a ≡ b)) ⊎ ((key_eq a b ≡ false) × (a ≢ b))
words_tells a b = elim (key_eq a b) as (λ t. key_eq a b ≡ t → ((t ≡ true) × (a ≡ b)) ⊎ ((t ≡ false) × (a ≢ b))) [
  | true ↦ λ e. inl (refl, same_words a b e)
  | false ↦ λ e. inr (refl, λ same. true≢false (sym (words_refl a) ∙ ap (key_eq a) same ∙ e))
] refl

pub words_apart : (a b : TableKey) → a ≢ b → key_eq a b ≡ false
words_apart a b n = elim (words_tells a b) [ inl s ↦ absurd (n s.1) | inr s ↦ s.0 ]

pub same_table : {X : Type 0} (t u : Table X) → ((q : TableKey) → fm.get t q ≡ fm.get u q) → t ≡ u
same_table t u is = fm.same_map nat_list_cmp_total words_anti t u is

pub get-write : {X : Type 0} (t : Table X) (k : TableKey) (o : Option X) (q : TableKey) → fm.get (write t k o) q ≡ cond (key_eq q k) o (fm.get t q)
get-write t k None q = fm.get-remove nat_list_cmp_total t k q
get-write t k (Some x) q = fm.get-insert nat_list_cmp_total t k x q

-- what is there is written again
pub written_same : {X : Type 0} (t : Table X) (k : TableKey) (x : X) → fm.get t k ≡ Some x → write t k (Some x) ≡ t
written_same {X} t k x there = same_table _ _ (λ q. get-write t k (Some x) q ∙ at q (key_eq q k) refl)
  where
    at : (q : TableKey) (b : Bool) → key_eq q k ≡ b → cond b (Some x) (fm.get t q) ≡ fm.get t q
    at q true e = sym there ∙ ap (fm.get t) (sym (same_words q k e))
    at q false e = refl

module _ {X Y : Type 0} (f : X → Y) where
  below-map : (k : TableKey) (xs : List (TableKey × X)) → T (es.below_all key_cmp k xs) → T (es.below_all key_cmp k (map (λ e. (e.0, f e.1)) xs))
  below-map k [] h = tt
  below-map k (e ∷ xs) h = elim (is_lt (key_cmp k e.0)) as (λ b. T (b && es.below_all key_cmp k xs) → T (b && es.below_all key_cmp k (map (λ e. (e.0, f e.1)) xs))) [
    | true ↦ λ h. below-map k xs h
    | false ↦ λ h. h
  ] h

  sorted-map : (xs : List (TableKey × X)) → T (es.is_sorted key_cmp xs) → T (es.is_sorted key_cmp (map (λ e. (e.0, f e.1)) xs))
  sorted-map [] h = tt
  sorted-map (e ∷ xs) h = both (es.below_all key_cmp e.0 xs) (es.is_sorted key_cmp xs) _ _ (below-map e.0 xs) (sorted-map xs) h
    where
      both : (a b c d : Bool) → (T a → T c) → (T b → T d) → T (a && b) → T (c && d)
      both true b true d p q h = q h
      both true b false d p q h = p tt
      both false b c d p q h = absurd h

  find-map : (q : TableKey) (xs : List (TableKey × X)) → es.find key_cmp q (map (λ e. (e.0, f e.1)) xs) ≡ option_map f (es.find key_cmp q xs)
  find-map q [] = refl
  find-map q (e ∷ xs) = elim (key_eq q e.0) as (λ b. cond b (Some (f e.1)) (es.find key_cmp q (map (λ e. (e.0, f e.1)) xs)) ≡ option_map f (cond b (Some e.1) (es.find key_cmp q xs))) [
    | true ↦ refl
    | false ↦ find-map q xs
  ]

  pub entries-map : (t : Table X) → fm.entries (table_map f t) ≡ map (λ e. (e.0, f e.1)) (fm.entries t)
  entries-map t = fm.entries-from_sorted key_cmp _ (sorted-map (fm.entries t) (fm.entries_sorted t))

  pub get-map : (t : Table X) (q : TableKey) → fm.get (table_map f t) q ≡ option_map f (fm.get t q)
  get-map t q = fm.get-entries (table_map f t) q
      ∙ ap (es.find key_cmp q) (entries-map t)
      ∙ find-map q (fm.entries t) ∙ ap (option_map f) (sym (fm.get-entries t q))
