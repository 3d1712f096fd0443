-- The table for which the entries of an ordered map stand, where keys are ordered as their words are.
use Rattle.std.proofs.Common.{◌≡◌, suc, Bool, true, false, cond, ◌&&◌, T, List, [], ◌∷◌, map, length, Option, Some, None, refl, sym, ap, subst, ◌∙◌, suc-le-suc, zero-lt-suc, Ordering, Less}
use Rattle.std.specs.Prelude.{IfSome}
use Rattle.std.specs.Ordering.{is_lt}
use Rattle.std.specs.List.{All, AllByRecursion}
use Rattle.std.specs.List.Sorted.{IsStrictlySortedBy}
use Rattle.std.specs.Map.{keys_of, lookup, remove_entry, set_value}
use Rattle.std.specs.BTreeMap.{insert_entry, is_at}
use Rattle.std.proofs.lemmas.Cmp.{nat_list_cmp_total}
use Rattle.std.proofs.lemmas.List.{length-map}
use Rattle.std.specs.FinMap as fm
use Rattle.std.specs.FinMap.Entries as ordered
use Rattle.sal_value.specs.Table.{TableKey, Table, key_cmp, key_eq, table_by, write}
use Rattle.sal_value.proofs.Tables.{same_words, same_table, get-write}
use Rattle.sal_value.proofs.Entries as by_words
use Rattle.sal_entries.specs.Entries.{word_entries}

abbrev order : {K : Type 0} → (K → TableKey) → K → K → Ordering
order words a b = key_cmp (words a) (words b)

both : (a b : Bool) → T a → T b → T (a && b)
both true b p q = q
both false b p q = p

lt : (o : Ordering) → o ≡ Less → T (is_lt o)
lt o e = subst (λ r. T (is_lt r)) (sym e) tt

same_order : {K : Type 0} {f g : K → K → Ordering} → ((a b : K) → f a b ≡ g a b) → f ≡ g
same_order same = λ i a b. same a b i

by_recursion : {X : Type 0} (P : X → Type 0) (xs : List X) → All P xs → AllByRecursion P xs
by_recursion P [] h = tt
by_recursion P (x ∷ xs) h = (h 0 x (zero-lt-suc _), by_recursion P xs (λ k d l. h (suc k) d (suc-le-suc l)))

module _ {K X : Type 0} (words : K → TableKey) where
  abbrev at_key : TableKey → List (K × X) → Option X
  at_key q more = ordered.find key_cmp q (map (λ e. (words e.0, e.1)) more)

  get_by : (more : List (K × X)) (q : TableKey) → fm.get (table_by words more) q ≡ at_key q more
  get_by more q = fm.get-from_entries nat_list_cmp_total (map (λ (e : K × X). (words e.0, e.1)) more) q

  -- ---- an entry is taken away

  remove_at : (q : TableKey) (n : K) (e : K × X) (more : List (K × X)) (b : Bool) → key_eq (words n) (words e.0) ≡ b → key_eq q (words n) ≡ false →
      at_key q (remove_entry (is_at (order words n)) more) ≡ at_key q more →
      at_key q (cond b more (e ∷ remove_entry (is_at (order words n)) more)) ≡ at_key q (e ∷ more)
  remove_at q n e more true is differ rest =
      sym (ap (λ c. cond c (Some e.1) (at_key q more)) (ap (key_eq q) (sym (same_words (words n) (words e.0) is)) ∙ differ))
  remove_at q n e more false is differ rest = ap (cond (key_eq q (words e.0)) (Some e.1)) rest

  found_remove : (q : TableKey) (n : K) (more : List (K × X)) → key_eq q (words n) ≡ false → at_key q (remove_entry (is_at (order words n)) more) ≡ at_key q more
  found_remove q n [] differ = refl
  found_remove q n (e ∷ more) differ = remove_at q n e more (key_eq (words n) (words e.0)) refl differ (found_remove q n more differ)

  none_at_key : (n : K) (more : List (K × X)) → lookup (is_at (order words n)) more ≡ None → at_key (words n) more ≡ None
  none_at_key n [] e = refl
  none_at_key n (x ∷ more) e = at (key_eq (words n) (words x.0)) (none_at_key n more) e
    where
      at : (b : Bool) → (lookup (is_at (order words n)) more ≡ None → at_key (words n) more ≡ None) → cond b (Some x.1) (lookup (is_at (order words n)) more) ≡ None → cond b (Some x.1) (at_key (words n) more) ≡ None
      at true rest f = f
      at false rest f = rest f

  without_entry : (n : K) (old new : List (K × X)) → new ≡ remove_entry (is_at (order words n)) old → lookup (is_at (order words n)) new ≡ None → table_by words new ≡ write (table_by words old) (words n) None
  without_entry n old new is gone = same_table _ _ (λ q. get_by new q ∙ at q (key_eq q (words n)) refl ∙ sym (get-write (table_by words old) (words n) None q))
    where
      at : (q : TableKey) (b : Bool) → key_eq q (words n) ≡ b → at_key q new ≡ cond b None (fm.get (table_by words old) q)
      at q true e = ap (λ k. at_key k new) (same_words q (words n) e) ∙ none_at_key n new gone
      at q false e = ap (at_key q) is ∙ found_remove q n old e ∙ sym (get_by old q)

  -- ---- the entries in order

  module _ (cmp : K → K → Ordering) (keyed : (a b : K) → cmp a b ≡ order words a b) where
    pub got : (n : K) (es : List (K × X)) → lookup (is_at (cmp n)) es ≡ fm.get (table_by words es) (words n)
    got n es = ap (λ (r : K → K → Ordering). lookup (is_at (r n)) es) (same_order keyed) ∙ by_words.got words n es

    pub inserted : (n : K) (v : X) (old new : List (K × X)) → new ≡ insert_entry cmp old n v → table_by words new ≡ write (table_by words old) (words n) (Some v)
    inserted n v old new is = by_words.inserted words n v old new (is ∙ ap (λ (r : K → K → Ordering). insert_entry r old n v) (same_order keyed))

    pub changed : (n : K) (w v : X) (old new : List (K × X)) → lookup (is_at (cmp n)) old ≡ Some v → new ≡ set_value (is_at (cmp n)) old w → table_by words new ≡ write (table_by words old) (words n) (Some w)
    changed n w v old new there is =
        by_words.changed words n w v old new (sym (ap (λ (r : K → K → Ordering). lookup (is_at (r n)) old) (same_order keyed)) ∙ there) (is ∙ ap (λ (r : K → K → Ordering). set_value (is_at (r n)) old w) (same_order keyed))

    pub removed : (n : K) (old new : List (K × X)) → new ≡ remove_entry (is_at (cmp n)) old → lookup (is_at (cmp n)) new ≡ None → table_by words new ≡ write (table_by words old) (words n) None
    removed n old new is gone =
        without_entry n old new (is ∙ ap (λ (r : K → K → Ordering). remove_entry (is_at (r n)) old) (same_order keyed)) (sym (ap (λ (r : K → K → Ordering). lookup (is_at (r n)) new) (same_order keyed)) ∙ gone)

    below_is : (n : K) (more : List (K × X)) → AllByRecursion (λ m. cmp n m ≡ Less) (keys_of more) → T (ordered.below_all key_cmp (words n) (word_entries words more))
    below_is n [] h = tt
    below_is n (e ∷ more) h = both _ _ (lt (order words n e.0) (sym (keyed n e.0) ∙ h.0)) (below_is n more h.1)

    sorted_is : (more : List (K × X)) → IsStrictlySortedBy cmp (keys_of more) → T (ordered.is_sorted key_cmp (word_entries words more))
    unfolding IsStrictlySortedBy
    sorted_is [] h = tt
    sorted_is (e ∷ more) h = both _ _ (below_is e.0 more h.0) (sorted_is more h.1)

    -- the entries of the table are those of the map, in the same order
    pub entries_are : (more : List (K × X)) → IsStrictlySortedBy cmp (keys_of more) → word_entries words more ≡ fm.entries (table_by words more)
    entries_are more h =
        let sorted = sorted_is more h in
        sym (ap fm.entries (same_table (table_by words more) (fm.from_sorted (word_entries words more)) (λ q. get_by more q ∙ sym (fm.get-from_sorted key_cmp (word_entries words more) q sorted)))
        ∙ fm.entries-from_sorted key_cmp (word_entries words more) sorted)

    pub length_is : (more : List (K × X)) → IsStrictlySortedBy cmp (keys_of more) → length more ≡ fm.len (table_by words more)
    length_is more h = sym (length-map more (λ (e : K × X). (words e.0, e.1))) ∙ ap length (entries_are more h) ∙ sym (fm.len-entries (table_by words more))

    -- the first entry leaves
    popped : (e : K × X) (old new : List (K × X)) → old ≡ e ∷ new → All (λ m. cmp e.0 m ≡ Less) (keys_of new) → IsStrictlySortedBy cmp (keys_of new) → fm.entries (table_by words old) ≡ (words e.0, e.1) ∷ fm.entries (table_by words new)
    unfolding IsStrictlySortedBy
    popped e old new is above ordered =
        ap (λ l. fm.entries (table_by words l)) is
        ∙ sym (entries_are (e ∷ new) (by_recursion (λ m. cmp e.0 m ≡ Less) (keys_of new) above, ordered))
        ∙ ap (λ l. (words e.0, e.1) ∷ l) (entries_are new ordered)

    pub pops : (r : Option (K × X)) (old new : List (K × X)) (t : Table X) → IfSome r (λ e. old ≡ e ∷ new) → IfSome r (λ e. All (λ m. cmp e.0 m ≡ Less) (keys_of new)) → IsStrictlySortedBy cmp (keys_of new) → table_by words old ≡ t → IfSome r (λ e. fm.entries t ≡ (words e.0, e.1) ∷ fm.entries (table_by words new))
    pops None old new t is above ordered view = tt
    pops (Some e) old new t is above ordered view = ap fm.entries (sym view) ∙ popped e old new is above ordered
