-- What an ordered map has, and what a change of it does to the table for which its entries stand.
use Rattle.std.proofs.Common.{◌≡◌, Bool, true, false, cond, T, List, [], ◌∷◌, map, Option, Some, None, refl, sym, ap, subst, ◌∙◌, true≢false, Ordering, Less, Equal, Greater}
use Rattle.std.specs.List.{AllByRecursion}
use Rattle.std.specs.Prelude.{IfSome}
use Rattle.std.specs.Option.{option_map}
use Rattle.std.specs.Ordering.{is_eq, match_ordering}
use Rattle.std.specs.List.Sorted.{IsStrictlySortedBy}
use Rattle.std.specs.Map.{keys_of, lookup, lookup_key, remove_entry}
use Rattle.std.specs.BTreeMap.{insert_entry, is_at}
use Rattle.std.specs.FinMap as fm
use Rattle.std.specs.FinMap.Entries as es
use Rattle.sal_source.specs.Table.{TableKey, key_cmp, key_eq, Table, table_of, write}
use Rattle.sal_source.specs.code.Lists.{first_at_key, IsSorted, AreDistinct}
use Rattle.sal_source.proofs.Tables.{some_is, same_words, words_refl, same_table, get-write, get-table_of}
use Rattle.sal_source.proofs.Sorted.{both, lt, apart_more}

-- Entries (k, v) that stand for the items `item (k, v)`, by keys of which those of the items are made.
module _ {K V X : Type 0} (words : K → TableKey) (key : X → TableKey) (item : K × V → X) (keyed : (e : K × V) → key (item e) ≡ words e.0) where
  abbrev order : K → K → Ordering
  order a b = key_cmp (words a) (words b)

  abbrev in_table : List (K × V) → Table X
  in_table more = table_of key (map item more)

  abbrev at_key : TableKey → List (K × V) → Option X
  at_key q more = first_at_key key q (map item more)

  -- ---- what is found

  at_first : (q : TableKey) (e : K × V) (more : List (K × V)) → at_key q (e ∷ more) ≡ cond (key_eq q (words e.0)) (Some (item e)) (at_key q more)
  at_first q e more = ap (λ k. cond (key_eq q k) (Some (item e)) (at_key q more)) (keyed e)

  get_in : (more : List (K × V)) (q : TableKey) → fm.get (in_table more) q ≡ at_key q more
  get_in more q = get-table_of key (map item more) q

  module _ {A : Type 0} (name : A → K) (state : A → V) where
    entry_at : (n : K) (r : Option A) (e : K × V) (more : List (K × V)) (b : Bool)
        → (option_map name r ≡ lookup_key (is_at (order n)) more → option_map state r ≡ lookup (is_at (order n)) more → option_map (λ a. item (name a, state a)) r ≡ at_key (words n) more)
        → option_map name r ≡ cond b (Some e.0) (lookup_key (is_at (order n)) more) → option_map state r ≡ cond b (Some e.1) (lookup (is_at (order n)) more)
        → option_map (λ a. item (name a, state a)) r ≡ cond b (Some (item e)) (at_key (words n) more)
    entry_at n None e more true rest k v = absurd (let f : None ≡ Some e.0 = k in cc)
    entry_at n (Some a) e more true rest k v = ap (λ (x : K × V). Some (item x)) (λ i. (some_is k i, some_is v i))
    entry_at n r e more false rest k v = rest k v

    entry_is : (n : K) (r : Option A) (more : List (K × V)) → option_map name r ≡ lookup_key (is_at (order n)) more → option_map state r ≡ lookup (is_at (order n)) more → option_map (λ a. item (name a, state a)) r ≡ at_key (words n) more
    entry_is n None [] k v = refl
    entry_is n (Some a) [] k v = absurd (let f : Some (name a) ≡ None = k in cc)
    entry_is n r (e ∷ more) k v = entry_at n r e more (key_eq (words n) (words e.0)) (entry_is n r more) k v ∙ sym (at_first (words n) e more)

    -- the entry at the key stands for the item at its words
    pub got : (n : K) (r : Option A) (more : List (K × V)) → option_map name r ≡ lookup_key (is_at (order n)) more → option_map state r ≡ lookup (is_at (order n)) more → option_map (λ a. item (name a, state a)) r ≡ fm.get (in_table more) (words n)
    got n r more k v = entry_is n r more k v ∙ sym (get_in more (words n))

    -- a key that compares as equal has the same words
    pub same_key : (n : K) (r : Option A) → IfSome r (λ a. order n (name a) ≡ Equal) → IfSome r (λ a. words n ≡ words (name a))
    same_key n None h = tt
    same_key n (Some a) h = same_words (words n) (words (name a)) (ap is_eq h)

  module _ (tell : (a b : K) → words a ≡ words b → a ≡ b) where
    held_at : (n : K) (e : K × V) (more : List (K × V)) (b : Bool) → key_eq (words n) (words e.0) ≡ b →
        option_map (λ v. item (n, v)) (lookup (is_at (order n)) more) ≡ at_key (words n) more →
        option_map (λ v. item (n, v)) (cond b (Some e.1) (lookup (is_at (order n)) more)) ≡ cond b (Some (item e)) (at_key (words n) more)
    held_at n e more true is rest = ap (λ m. Some (item (m, e.1))) (tell n e.0 (same_words (words n) (words e.0) is))
    held_at n e more false is rest = rest

    held : (n : K) (more : List (K × V)) → option_map (λ v. item (n, v)) (lookup (is_at (order n)) more) ≡ at_key (words n) more
    held n [] = refl
    held n (e ∷ more) = held_at n e more (key_eq (words n) (words e.0)) refl (held n more) ∙ sym (at_first (words n) e more)

    -- the value that is found at the key
    pub value_is : (n : K) (more : List (K × V)) (o : Option V) → o ≡ lookup (is_at (order n)) more → fm.get (in_table more) (words n) ≡ option_map (λ v. item (n, v)) o
    value_is n more o is = get_in more (words n) ∙ sym (held n more) ∙ ap (option_map (λ v. item (n, v))) (sym is)

    -- ---- an entry is put

    insert_at : (q : TableKey) (n : K) (v : V) (e : K × V) (more : List (K × V)) (o : Ordering) → key_cmp (words n) (words e.0) ≡ o →
        at_key q (insert_entry order more n v) ≡ cond (key_eq q (words n)) (Some (item (n, v))) (at_key q more) →
        at_key q (match_ordering o ((n, v) ∷ e ∷ more) ((e.0, v) ∷ more) (e ∷ insert_entry order more n v)) ≡ cond (key_eq q (words n)) (Some (item (n, v))) (at_key q (e ∷ more))
    insert_at q n v e more Less is rest = at_first q (n, v) (e ∷ more)
    insert_at q n v e more Equal is rest =
        ap (λ m. at_key q ((m, v) ∷ more)) (sym (tell n e.0 (same_words (words n) (words e.0) (ap is_eq is))))
        ∙ at_first q (n, v) more
        ∙ over (key_eq q (words n)) (key_eq q (words e.0)) (Some (item (n, v))) (Some (item e)) (at_key q more) (ap (key_eq q) (same_words (words n) (words e.0) (ap is_eq is)))
        ∙ ap (cond (key_eq q (words n)) (Some (item (n, v)))) (sym (at_first q e more))
      where
        over : {A : Type 0} (a b : Bool) (u w x : A) → a ≡ b → cond a u x ≡ cond a u (cond b w x)
        over true b u w x e = refl
        over false true u w x e = absurd (true≢false (sym e))
        over false false u w x e = refl
    insert_at q n v e more Greater is rest =
        at_first q e (insert_entry order more n v)
        ∙ ap (cond (key_eq q (words e.0)) (Some (item e))) rest
        ∙ swap (key_eq q (words e.0)) (key_eq q (words n)) (λ f g. differ f g)
        ∙ ap (cond (key_eq q (words n)) (Some (item (n, v)))) (sym (at_first q e more))
      where
        differ : key_eq q (words e.0) ≡ true → key_eq q (words n) ≡ true → ⊥
        differ f g = true≢false (sym (words_refl (words n)) ∙ ap (key_eq (words n)) (sym (same_words q (words n) g) ∙ same_words q (words e.0) f) ∙ ap is_eq is)

        swap : (b c : Bool) → (b ≡ true → c ≡ true → ⊥) → cond b (Some (item e)) (cond c (Some (item (n, v))) (at_key q more)) ≡ cond c (Some (item (n, v))) (cond b (Some (item e)) (at_key q more))
        swap true true h = absurd (h refl refl)
        swap true false h = refl
        swap false c h = refl

    found_insert : (q : TableKey) (n : K) (v : V) (more : List (K × V)) → at_key q (insert_entry order more n v) ≡ cond (key_eq q (words n)) (Some (item (n, v))) (at_key q more)
    found_insert q n v [] = at_first q (n, v) []
    found_insert q n v (e ∷ more) = insert_at q n v e more (key_cmp (words n) (words e.0)) refl (found_insert q n v more)

    pub inserted : (n : K) (v : V) (old new : List (K × V)) → new ≡ insert_entry order old n v → in_table new ≡ write (in_table old) (words n) (Some (item (n, v)))
    inserted n v old new is = ap in_table is ∙ same_table _ _ (λ q.
        get_in (insert_entry order old n v) q ∙ found_insert q n v old
        ∙ ap (cond (key_eq q (words n)) (Some (item (n, v)))) (sym (get_in old q))
        ∙ sym (get-write (in_table old) (words n) (Some (item (n, v))) q))

  -- ---- an entry is taken away

  remove_at : (q : TableKey) (n : K) (e : K × V) (more : List (K × V)) (b : Bool) → key_eq (words n) (words e.0) ≡ b → key_eq q (words n) ≡ false →
      at_key q (remove_entry (is_at (order n)) more) ≡ at_key q more →
      at_key q (cond b more (e ∷ remove_entry (is_at (order n)) more)) ≡ at_key q (e ∷ more)
  remove_at q n e more true is differ rest =
      sym (at_first q e more ∙ ap (λ c. cond c (Some (item e)) (at_key q more)) (ap (key_eq q) (sym (same_words (words n) (words e.0) is)) ∙ differ))
  remove_at q n e more false is differ rest = at_first q e _ ∙ ap (cond (key_eq q (words e.0)) (Some (item e))) rest ∙ sym (at_first q e more)

  found_remove : (q : TableKey) (n : K) (more : List (K × V)) → key_eq q (words n) ≡ false → at_key q (remove_entry (is_at (order n)) more) ≡ at_key q more
  found_remove q n [] differ = refl
  found_remove q n (e ∷ more) differ = remove_at q n e more (key_eq (words n) (words e.0)) refl differ (found_remove q n more differ)

  none_at_key : (n : K) (more : List (K × V)) → lookup (is_at (order n)) more ≡ None → at_key (words n) more ≡ None
  none_at_key n [] e = refl
  none_at_key n (x ∷ more) e = at_first (words n) x more ∙ at (key_eq (words n) (words x.0)) (none_at_key n more) e
    where
      at : (b : Bool) → (lookup (is_at (order n)) more ≡ None → at_key (words n) more ≡ None) → cond b (Some x.1) (lookup (is_at (order n)) more) ≡ None → cond b (Some (item x)) (at_key (words n) more) ≡ None
      at true rest f = absurd (let g : Some x.1 ≡ None = f in cc)
      at false rest f = rest f

  pub removed : (n : K) (old new : List (K × V)) → new ≡ remove_entry (is_at (order n)) old → lookup (is_at (order n)) new ≡ None → in_table new ≡ write (in_table old) (words n) None
  removed n old new is gone = same_table _ _ (λ q. get_in new q ∙ at q (key_eq q (words n)) refl ∙ sym (get-write (in_table old) (words n) None q))
    where
      at : (q : TableKey) (b : Bool) → key_eq q (words n) ≡ b → at_key q new ≡ cond b None (fm.get (in_table old) q)
      at q true e = ap (λ k. at_key k new) (same_words q (words n) e) ∙ none_at_key n new gone
      at q false e = ap (at_key q) is ∙ found_remove q n old e ∙ sym (get_in old q)

  -- ---- the entries in order

  below_is : (n : K) (more : List (K × V)) → AllByRecursion (λ m. order n m ≡ Less) (keys_of more) → T (es.below_all key_cmp (words n) (map (λ a. (key a, a)) (map item more)))
  below_is n [] h = tt
  below_is n (e ∷ more) h = both _ _ (lt (words n) (key (item e)) (ap (key_cmp (words n)) (keyed e) ∙ h.0)) (below_is n more h.1)

  pub sorted_is : (more : List (K × V)) → IsStrictlySortedBy order (keys_of more) → IsSorted key (map item more)
  unfolding IsStrictlySortedBy
  sorted_is [] h = tt
  sorted_is (e ∷ more) h = both _ _ (subst (λ k. T (es.below_all key_cmp k (map (λ a. (key a, a)) (map item more)))) (sym (keyed e)) (below_is e.0 more h.0)) (sorted_is more h.1)

  none_below : (n : K) (more : List (K × V)) → AllByRecursion (λ m. order n m ≡ Less) (keys_of more) → at_key (words n) more ≡ None
  none_below n [] h = refl
  none_below n (e ∷ more) h = at_first (words n) e more ∙ ap (λ b. cond b (Some (item e)) (at_key (words n) more)) (apart_more (words n) (words e.0) h.0) ∙ none_below n more h.1

  pub distinct_is : (more : List (K × V)) → IsStrictlySortedBy order (keys_of more) → AreDistinct key (map item more)
  unfolding IsStrictlySortedBy
  distinct_is [] h = tt
  distinct_is (e ∷ more) h = (ap (λ k. at_key k more) (keyed e) ∙ none_below e.0 more h.0, distinct_is more h.1)
