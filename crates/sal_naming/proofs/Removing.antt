-- A name that is taken out of the table.
use Rattle.std.proofs.Common.{◌≡◌, Bool, true, false, cond, List, [], ◌∷◌, map, Option, Some, None, refl, sym, ap, ◌∙◌, Ordering}
use Rattle.std.specs.Map.{lookup, remove_entry}
use Rattle.std.specs.BTreeMap.{is_at}
use Rattle.std.proofs.lemmas.Cmp.{nat_list_cmp_total}
use Rattle.std.specs.FinMap as fm
use Rattle.std.specs.FinMap.Entries as es
use Rattle.sal_value.specs.declared.name.Uan.{Uan}
use Rattle.sal_value.specs.Order.{uan_key}
use Rattle.sal_value.specs.Table.{TableKey, key_cmp, key_eq, table_by, write}
use Rattle.sal_value.proofs.Tables.{same_words, words_refl, same_table, get-write}
use Rattle.sal_naming.specs.declared.entry.Entry.{Entry}
use Rattle.sal_naming.specs.Table.{Names, entry_of, keep}

abbrev order : {K : Type 0} → (K → TableKey) → K → K → Ordering
order words a b = key_cmp (words a) (words b)

module _ {K V : Type 0} (words : K → TableKey) where
  abbrev at_key : TableKey → List (K × V) → Option V
  at_key q more = es.find key_cmp q (map (λ e. (words e.0, e.1)) more)

  get_by : (more : List (K × V)) (q : TableKey) → fm.get (table_by words more) q ≡ at_key q more
  get_by more q = fm.get-from_entries nat_list_cmp_total (map (λ (e : K × V). (words e.0, e.1)) more) q

  remove_at : (q : TableKey) (n : K) (e : K × V) (more : List (K × V)) (b : Bool) → key_eq (words n) (words e.0) ≡ b → key_eq q (words n) ≡ false →
      at_key q (remove_entry (is_at (order words n)) more) ≡ at_key q more →
      at_key q (cond b more (e ∷ remove_entry (is_at (order words n)) more)) ≡ at_key q (e ∷ more)
  remove_at q n e more true is differ rest =
      sym (ap (λ c. cond c (Some e.1) (at_key q more)) (ap (key_eq q) (sym (same_words (words n) (words e.0) is)) ∙ differ))
  remove_at q n e more false is differ rest = ap (cond (key_eq q (words e.0)) (Some e.1)) rest

  found_remove : (q : TableKey) (n : K) (more : List (K × V)) → key_eq q (words n) ≡ false → at_key q (remove_entry (is_at (order words n)) more) ≡ at_key q more
  found_remove q n [] differ = refl
  found_remove q n (e ∷ more) differ = remove_at q n e more (key_eq (words n) (words e.0)) refl differ (found_remove q n more differ)

  none_at_key : (n : K) (more : List (K × V)) → lookup (is_at (order words n)) more ≡ None → at_key (words n) more ≡ None
  none_at_key n [] e = refl
  none_at_key n (x ∷ more) e = at (key_eq (words n) (words x.0)) (none_at_key n more) e
    where
      at : (b : Bool) → (lookup (is_at (order words n)) more ≡ None → at_key (words n) more ≡ None) → cond b (Some x.1) (lookup (is_at (order words n)) more) ≡ None → cond b (Some x.1) (at_key (words n) more) ≡ None
      at true rest f = f
      at false rest f = rest f

  pub removed : (n : K) (old new : List (K × V)) → new ≡ remove_entry (is_at (order words n)) old → lookup (is_at (order words n)) new ≡ None → table_by words new ≡ write (table_by words old) (words n) None
  removed n old new is gone = same_table _ _ (λ q. get_by new q ∙ at q (key_eq q (words n)) refl ∙ sym (get-write (table_by words old) (words n) None q))
    where
      at : (q : TableKey) (b : Bool) → key_eq q (words n) ≡ b → at_key q new ≡ cond b None (fm.get (table_by words old) q)
      at q true e = ap (λ k. at_key k new) (same_words q (words n) e) ∙ none_at_key n new gone
      at q false e = ap (at_key q) is ∙ found_remove q n old e ∙ sym (get_by old q)

-- a name that was just put is taken out
pub put_undone : (u : Uan) (e : Entry) (t : Names) → entry_of u t ≡ None → write (keep u e t) (uan_key u) None ≡ t
put_undone u e t none = same_table _ _ (λ q.
    get-write (keep u e t) (uan_key u) None q
    ∙ ap (cond (key_eq q (uan_key u)) None) (get-write t (uan_key u) (Some e) q)
    ∙ at q (key_eq q (uan_key u)) refl)
  where
    at : (q : TableKey) (b : Bool) → key_eq q (uan_key u) ≡ b → cond b None (cond b (Some e) (fm.get t q)) ≡ fm.get t q
    at q true is = sym (ap (fm.get t) (same_words q (uan_key u) is) ∙ none)
    at q false is = refl
