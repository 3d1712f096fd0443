-- The table for which the entries of an ordered map stand, where keys are ordered by their words.
use Rattle.std.proofs.Common.{◌≡◌, Bool, true, false, cond, List, [], ◌∷◌, map, Option, Some, None, refl, sym, ap, ◌∙◌, true≢false, Ordering, Less, Equal, Greater}
use Rattle.std.specs.Ordering.{is_eq, match_ordering}
use Rattle.std.specs.Map.{lookup, set_value}
use Rattle.std.specs.BTreeMap.{insert_entry, is_at}
use Rattle.std.proofs.lemmas.Cmp.{nat_list_cmp_total}
use Rattle.std.specs.FinMap as fm
use Rattle.std.specs.FinMap.Entries as es
use Rattle.sal_value.specs.Table.{TableKey, key_cmp, key_eq, table_by, write}
use Rattle.sal_value.proofs.Tables.{same_words, words_refl, same_table, get-write}

-- Two tests of one key, where the second comes first.
swap : {A : Type 0} (a b : Bool) (u v w : A) → (a ≡ true → b ≡ true → ⊥) → cond a u (cond b v w) ≡ cond b v (cond a u w)
swap true true u v w h = absurd (h refl refl)
swap true false u v w h = refl
swap false b u v w h = refl

over : {A : Type 0} (a b : Bool) (u v w : A) → a ≡ b → cond a u w ≡ cond a u (cond b v w)
over true b u v w e = refl
over false true u v w e = absurd (true≢false (sym e))
over false false u v w e = refl

-- two keys that differ aren't both the key that is looked for
apart : (q a b : TableKey) → key_eq a b ≡ false → key_eq q b ≡ true → key_eq q a ≡ true → ⊥
apart q a b differ f g = true≢false (sym (words_refl a) ∙ ap (key_eq a) (sym (same_words q a g) ∙ same_words q b f) ∙ differ)

abbrev order : {K : Type 0} → (K → TableKey) → K → K → Ordering
order words a b = key_cmp (words a) (words b)

module _ {K V : Type 0} (words : K → TableKey) where
  abbrev at_key : TableKey → List (K × V) → Option V
  at_key q more = es.find key_cmp q (map (λ e. (words e.0, e.1)) more)

  get_by : (more : List (K × V)) (q : TableKey) → fm.get (table_by words more) q ≡ at_key q more
  get_by more q = fm.get-from_entries nat_list_cmp_total (map (λ (e : K × V). (words e.0, e.1)) more) q

  lookup_is : (n : K) (more : List (K × V)) → lookup (is_at (order words n)) more ≡ at_key (words n) more
  lookup_is n [] = refl
  lookup_is n (e ∷ more) = ap (cond (key_eq (words n) (words e.0)) (Some e.1)) (lookup_is n more)

  -- what the map has at a key
  pub got : (n : K) (more : List (K × V)) → lookup (is_at (order words n)) more ≡ fm.get (table_by words more) (words n)
  got n more = lookup_is n more ∙ sym (get_by more (words n))

  -- ---- an entry is put

  insert_at : (q : TableKey) (n : K) (v : V) (e : K × V) (more : List (K × V)) (o : Ordering) → key_cmp (words n) (words e.0) ≡ o →
      at_key q (insert_entry (order words) more n v) ≡ cond (key_eq q (words n)) (Some v) (at_key q more) →
      at_key q (match_ordering o ((n, v) ∷ e ∷ more) ((e.0, v) ∷ more) (e ∷ insert_entry (order words) more n v)) ≡ cond (key_eq q (words n)) (Some v) (at_key q (e ∷ more))
  insert_at q n v e more Less is rest = refl
  insert_at q n v e more Equal is rest =
      let same = same_words (words n) (words e.0) (ap is_eq is) in
      ap (λ w. cond (key_eq q w) (Some v) (at_key q more)) (sym same)
      ∙ over (key_eq q (words n)) (key_eq q (words e.0)) (Some v) (Some e.1) (at_key q more) (ap (key_eq q) same)
  insert_at q n v e more Greater is rest =
      ap (cond (key_eq q (words e.0)) (Some e.1)) rest
      ∙ swap (key_eq q (words e.0)) (key_eq q (words n)) (Some e.1) (Some v) (at_key q more) (apart q (words n) (words e.0) (ap is_eq is))

  found_insert : (q : TableKey) (n : K) (v : V) (more : List (K × V)) → at_key q (insert_entry (order words) more n v) ≡ cond (key_eq q (words n)) (Some v) (at_key q more)
  found_insert q n v [] = refl
  found_insert q n v (e ∷ more) = insert_at q n v e more (key_cmp (words n) (words e.0)) refl (found_insert q n v more)

  pub inserted : (n : K) (v : V) (old new : List (K × V)) → new ≡ insert_entry (order words) old n v → table_by words new ≡ write (table_by words old) (words n) (Some v)
  inserted n v old new is = ap (table_by words) is ∙ same_table _ _ (λ q.
      get_by (insert_entry (order words) old n v) q ∙ found_insert q n v old
      ∙ ap (cond (key_eq q (words n)) (Some v)) (sym (get_by old q))
      ∙ sym (get-write (table_by words old) (words n) (Some v) q))

  -- ---- the value of an entry is changed

  set_at : (q : TableKey) (n : K) (w v : V) (e : K × V) (more : List (K × V)) (b : Bool) → key_eq (words n) (words e.0) ≡ b →
      (lookup (is_at (order words n)) more ≡ Some v → at_key q (set_value (is_at (order words n)) more w) ≡ cond (key_eq q (words n)) (Some w) (at_key q more)) →
      cond b (Some e.1) (lookup (is_at (order words n)) more) ≡ Some v →
      at_key q (cond b ((e.0, w) ∷ more) (e ∷ set_value (is_at (order words n)) more w)) ≡ cond (key_eq q (words n)) (Some w) (at_key q (e ∷ more))
  set_at q n w v e more true is rest there =
      let same = same_words (words n) (words e.0) is in
      ap (λ k. cond (key_eq q k) (Some w) (at_key q more)) (sym same)
      ∙ over (key_eq q (words n)) (key_eq q (words e.0)) (Some w) (Some e.1) (at_key q more) (ap (key_eq q) same)
  set_at q n w v e more false is rest there =
      ap (cond (key_eq q (words e.0)) (Some e.1)) (rest there)
      ∙ swap (key_eq q (words e.0)) (key_eq q (words n)) (Some e.1) (Some w) (at_key q more) (apart q (words n) (words e.0) is)

  found_set : (q : TableKey) (n : K) (w v : V) (more : List (K × V)) → lookup (is_at (order words n)) more ≡ Some v → at_key q (set_value (is_at (order words n)) more w) ≡ cond (key_eq q (words n)) (Some w) (at_key q more)
  found_set q n w v [] there = absurd (let f : None ≡ Some v = there in cc)
  found_set q n w v (e ∷ more) there = set_at q n w v e more (key_eq (words n) (words e.0)) refl (found_set q n w v more) there

  pub changed : (n : K) (w v : V) (old new : List (K × V)) → lookup (is_at (order words n)) old ≡ Some v → new ≡ set_value (is_at (order words n)) old w → table_by words new ≡ write (table_by words old) (words n) (Some w)
  changed n w v old new there is = ap (table_by words) is ∙ same_table _ _ (λ q.
      get_by (set_value (is_at (order words n)) old w) q ∙ found_set q n w v old there
      ∙ ap (cond (key_eq q (words n)) (Some w)) (sym (get_by old q))
      ∙ sym (get-write (table_by words old) (words n) (Some w) q))
