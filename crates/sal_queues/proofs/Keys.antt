-- The table for which the entries of an ordered map stand, where keys are ordered by their words.
use Rattle.std.proofs.Common.{◌≡◌, suc, Bool, true, false, cond, ◌&&◌, T, List, [], ◌∷◌, map, Option, Some, None, refl, sym, ap, subst, ◌∙◌, suc-le-suc, zero-lt-suc, Ordering, Less}
use Rattle.std.specs.Prelude.{IfSome}
use Rattle.std.specs.Ordering.{is_lt}
use Rattle.std.specs.List.{All, AllByRecursion}
use Rattle.std.specs.List.Sorted.{IsStrictlySortedBy}
use Rattle.std.specs.Map.{keys_of, lookup, remove_entry}
use Rattle.std.specs.BTreeMap.{is_at}
use Rattle.std.proofs.lemmas.Cmp.{nat_list_cmp_total}
use Rattle.std.specs.FinMap as fm
use Rattle.std.specs.FinMap.Entries as ordered
use Rattle.sal_value.specs.Table.{TableKey, Table, key_cmp, key_eq, table_by, write}
use Rattle.sal_value.proofs.Tables.{same_words, same_table, get-write}

abbrev order : {K : Type 0} → (K → TableKey) → K → K → Ordering
order words a b = key_cmp (words a) (words b)

both : (a b : Bool) → T a → T b → T (a && b)
both true b p q = q
both false b p q = p

lt : (o : Ordering) → o ≡ Less → T (is_lt o)
lt o e = subst (λ r. T (is_lt r)) (sym e) tt

by_recursion : {X : Type 0} (P : X → Type 0) (xs : List X) → All P xs → AllByRecursion P xs
by_recursion P [] h = tt
by_recursion P (x ∷ xs) h = (h 0 x (zero-lt-suc _), by_recursion P xs (λ k d l. h (suc k) d (suc-le-suc l)))

module _ {K X : Type 0} (words : K → TableKey) where
  abbrev pub word_entries : List (K × X) → List (TableKey × X)
  word_entries more = map (λ e. (words e.0, e.1)) more

  abbrev pub at_key : TableKey → List (K × X) → Option X
  at_key q more = ordered.find key_cmp q (word_entries more)

  pub get_by : (more : List (K × X)) (q : TableKey) → fm.get (table_by words more) q ≡ at_key q more
  get_by more q = fm.get-from_entries nat_list_cmp_total (word_entries more) q

  -- ---- an entry is taken away

  remove_at : (q : TableKey) (n : K) (e : K × X) (more : List (K × X)) (b : Bool) → key_eq (words n) (words e.0) ≡ b → key_eq q (words n) ≡ false →
      at_key q (remove_entry (is_at (order words n)) more) ≡ at_key q more →
      at_key q (cond b more (e ∷ remove_entry (is_at (order words n)) more)) ≡ at_key q (e ∷ more)
  remove_at q n e more true is differ rest =
      sym (ap (λ c. cond c (Some e.1) (at_key q more)) (ap (key_eq q) (sym (same_words (words n) (words e.0) is)) ∙ differ))
  remove_at q n e more false is differ rest = ap (cond (key_eq q (words e.0)) (Some e.1)) rest

  found_remove : (q : TableKey) (n : K) (more : List (K × X)) → key_eq q (words n) ≡ false → at_key q (remove_entry (is_at (order words n)) more) ≡ at_key q more
  found_remove q n [] differ = refl
  found_remove q n (e ∷ more) differ = remove_at q n e more (key_eq (words n) (words e.0)) refl differ (found_remove q n more differ)

  none_at_key : (n : K) (more : List (K × X)) → lookup (is_at (order words n)) more ≡ None → at_key (words n) more ≡ None
  none_at_key n [] e = refl
  none_at_key n (x ∷ more) e = at (key_eq (words n) (words x.0)) (none_at_key n more) e
    where
      at : (b : Bool) → (lookup (is_at (order words n)) more ≡ None → at_key (words n) more ≡ None) → cond b (Some x.1) (lookup (is_at (order words n)) more) ≡ None → cond b (Some x.1) (at_key (words n) more) ≡ None
      at true rest f = f
      at false rest f = rest f

  pub removed : (n : K) (old new : List (K × X)) → new ≡ remove_entry (is_at (order words n)) old → lookup (is_at (order words n)) new ≡ None → table_by words new ≡ write (table_by words old) (words n) None
  removed n old new is gone = same_table _ _ (λ q. get_by new q ∙ at q (key_eq q (words n)) refl ∙ sym (get-write (table_by words old) (words n) None q))
    where
      at : (q : TableKey) (b : Bool) → key_eq q (words n) ≡ b → at_key q new ≡ cond b None (fm.get (table_by words old) q)
      at q true e = ap (λ k. at_key k new) (same_words q (words n) e) ∙ none_at_key n new gone
      at q false e = ap (at_key q) is ∙ found_remove q n old e ∙ sym (get_by old q)

  -- ---- the entries in order

  below_is : (n : K) (more : List (K × X)) → AllByRecursion (λ m. order words n m ≡ Less) (keys_of more) → T (ordered.below_all key_cmp (words n) (word_entries more))
  below_is n [] h = tt
  below_is n (e ∷ more) h = both _ _ (lt (order words n e.0) h.0) (below_is n more h.1)

  sorted_is : (more : List (K × X)) → IsStrictlySortedBy (order words) (keys_of more) → T (ordered.is_sorted key_cmp (word_entries more))
  unfolding IsStrictlySortedBy
  sorted_is [] h = tt
  sorted_is (e ∷ more) h = both _ _ (below_is e.0 more h.0) (sorted_is more h.1)

  -- the entries of the table are those of the map, in the same order
  pub entries_are : (more : List (K × X)) → IsStrictlySortedBy (order words) (keys_of more) → word_entries more ≡ fm.entries (table_by words more)
  entries_are more h =
      let sorted = sorted_is more h in
      sym (ap fm.entries (same_table (table_by words more) (fm.from_sorted (word_entries more)) (λ q. get_by more q ∙ sym (fm.get-from_sorted key_cmp (word_entries more) q sorted)))
      ∙ fm.entries-from_sorted key_cmp (word_entries more) sorted)

  -- the first entry leaves
  popped : (e : K × X) (old new : List (K × X)) → old ≡ e ∷ new → All (λ m. order words e.0 m ≡ Less) (keys_of new) → IsStrictlySortedBy (order words) (keys_of new) → fm.entries (table_by words old) ≡ (words e.0, e.1) ∷ fm.entries (table_by words new)
  unfolding IsStrictlySortedBy
  popped e old new is above in_order =
      ap (λ l. fm.entries (table_by words l)) is
      ∙ sym (entries_are (e ∷ new) (by_recursion (λ m. order words e.0 m ≡ Less) (keys_of new) above, in_order))
      ∙ ap (λ l. (words e.0, e.1) ∷ l) (entries_are new in_order)

  pub pops : (r : Option (K × X)) (old new : List (K × X)) (t : Table X) → IfSome r (λ e. old ≡ e ∷ new) → IfSome r (λ e. All (λ m. order words e.0 m ≡ Less) (keys_of new)) → IsStrictlySortedBy (order words) (keys_of new) → table_by words old ≡ t → IfSome r (λ e. fm.entries t ≡ (words e.0, e.1) ∷ fm.entries (table_by words new))
  pops None old new t is above in_order view = tt
  pops (Some e) old new t is above in_order view = ap fm.entries (sym view) ∙ popped e old new is above in_order
