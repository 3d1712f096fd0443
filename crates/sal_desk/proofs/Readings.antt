-- What is read of tables.
use Rattle.std.proofs.Common.{◌≡◌, ℕ, Bool, true, false, cond, if◌then◌else◌, IsTrue, ◌&&◌, T, List, [], ◌∷◌, ◌++◌, map, length, Option, Some, None, refl, sym, ap, ◌∙◌, true≢false, append-nil, append_assoc}
use Rattle.std.specs.Prelude.{◌↔◌, not, filter}
use Rattle.std.specs.Ordering.{is_lt}
use Rattle.std.proofs.lemmas.Cmp.{nat_list_cmp_total}
use Rattle.std.specs.FinMap as fm
use Rattle.std.specs.FinMap.Entries as ordered
use Rattle.sal_value.specs.declared.name.Uan.{Uan}
use Rattle.sal_value.specs.Table.{TableKey, Table, key_cmp}
use Rattle.sal_value.proofs.Tables.{same_table}
use Rattle.sal_entries.specs.Entries.{Entries, values, before_values, value_entries, word_entries}
use Rattle.sal_queues.proofs.Rooms.{entries-empty}
use Rattle.sal_routing.specs.declared.pending.Question.{Question}
use Rattle.sal_routing.specs.Turns.{is_none, is_asked_again}
use Rattle.sal_desk.specs.code.Asking.{again_by, is_again_by, again_in}

-- ---- empty tables

pub none_of : {X : Type 0} (t : Table X) (b : Bool) → (IsTrue b ↔ (t ≡ fm.empty)) → b ≡ is_none (fm.entries t)
none_of {X} t true h = sym (ap (λ u. is_none (fm.entries u)) (h.0 refl) ∙ ap is_none entries-empty)
none_of {X} t false h = at (fm.entries t) refl
  where
    at : (es : List (TableKey × X)) → fm.entries t ≡ es → false ≡ is_none (fm.entries t)
    at [] e = absurd (true≢false (sym (h.1 (fm.empty_of_len t (fm.len-entries t ∙ ap length e)))))
    at (x ∷ es) e = sym (ap is_none e)

-- ---- the values in the order of keys

left : (a b : Bool) → T (a && b) → T a
left true b h = tt
left false b h = absurd h

right : (a b : Bool) → T (a && b) → T b
right true b h = h
right false b h = absurd h

both : (a b : Bool) → T a → T b → T (a && b)
both true b h g = g
both false b h g = absurd h

module _ {V : Type 0} where
  below_values : (k : TableKey) (es : List (TableKey × Option V)) → T (ordered.below_all key_cmp k es) → T (ordered.below_all key_cmp k (value_entries es))
  below_values k [] h = tt
  below_values k (e ∷ es) h = at e.1 (left (is_lt (key_cmp k e.0)) _ h) (below_values k es (right (is_lt (key_cmp k e.0)) _ h))
    where
      at : (o : Option V) → T (is_lt (key_cmp k e.0)) → T (ordered.below_all key_cmp k (value_entries es)) → T (ordered.below_all key_cmp k (before_values e.0 o (value_entries es)))
      at None first rest = rest
      at (Some v) first rest = both (is_lt (key_cmp k e.0)) _ first rest

  sorted_values : (es : List (TableKey × Option V)) → T (ordered.is_sorted key_cmp es) → T (ordered.is_sorted key_cmp (value_entries es))
  sorted_values [] h = tt
  sorted_values (e ∷ es) h = at e.1 (below_values e.0 es (left (ordered.below_all key_cmp e.0 es) _ h)) (sorted_values es (right (ordered.below_all key_cmp e.0 es) _ h))
    where
      at : (o : Option V) → T (ordered.below_all key_cmp e.0 (value_entries es)) → T (ordered.is_sorted key_cmp (value_entries es)) → T (ordered.is_sorted key_cmp (before_values e.0 o (value_entries es)))
      at None first rest = rest
      at (Some v) first rest = both (ordered.below_all key_cmp e.0 (value_entries es)) _ first rest

  entries-sorted : (es : List (TableKey × V)) → T (ordered.is_sorted key_cmp es) → fm.entries (fm.from_entries {R = key_cmp} es) ≡ es
  entries-sorted es s =
      ap fm.entries (same_table (fm.from_entries es) (fm.from_sorted es) (λ q. fm.get-from_entries nat_list_cmp_total es q ∙ sym (fm.get-from_sorted key_cmp es q s)))
      ∙ fm.entries-from_sorted key_cmp es s

  pub entries-values : (t : Entries V) → fm.entries (values t) ≡ value_entries (fm.entries t)
  unfolding values
  entries-values t = entries-sorted (value_entries (fm.entries t)) (sorted_values (fm.entries t) (fm.entries_sorted t))

-- ---- the names that are asked for again

module _ (now : ℕ) where
  again_values : (es : List (TableKey × Option Question)) → again_in now es ≡ map (λ q. q.name) (filter (λ q. is_asked_again now q.asking) (map (λ e. e.1) (value_entries es)))
  unfolding again_in
  again_values [] = refl
  again_values (e ∷ es) = at e.1 (again_values es)
    where
      names : List (TableKey × Question) → List Uan
      names fs = map (λ q. q.name) (filter (λ q. is_asked_again now q.asking) (map (λ f. f.1) fs))

      by : (q : Question) (b : Bool) (fs : List Question) → again_in now es ≡ map (λ r. r.name) fs → (if b then q.name ∷ [] else []) ++ again_in now es ≡ map (λ r. r.name) (cond b (q ∷ fs) fs)
      by q true fs rest = ap (λ us. q.name ∷ us) rest
      by q false fs rest = rest

      at : (o : Option Question) → again_in now es ≡ names (value_entries es) → again_by now o ++ again_in now es ≡ names (before_values e.0 o (value_entries es))
      at None rest = rest
      at (Some q) rest = by q (is_asked_again now q.asking) (filter (λ r. is_asked_again now r.asking) (map (λ f. f.1) (value_entries es))) rest

  again_words : {K : Type 0} (words : K → TableKey) (es : List (K × Option Question)) → again_in now (word_entries words es) ≡ again_in now es
  unfolding again_in
  again_words words [] = refl
  again_words words (e ∷ es) = ap (λ us. again_by now e.1 ++ us) (again_words words es)

  -- of entries in the order of keys
  pub again_are : {K : Type 0} (words : K → TableKey) (es : List (K × Option Question)) (t : Entries Question) → word_entries words es ≡ fm.entries t → again_in now es ≡ map (λ q. q.name) (filter (λ q. is_asked_again now q.asking) (fm.values (values t)))
  again_are words es t is =
      sym (again_words words es) ∙ ap (again_in now) is ∙ again_values (fm.entries t)
      ∙ ap (λ fs. map (λ q. q.name) (filter (λ q. is_asked_again now q.asking) (map (λ f. f.1) fs))) (sym (entries-values t))

  -- the next entry of a loop
  pub again_step : {K : Type 0} (names more : List Uan) (e : K × Option Question) (it rest : List (K × Option Question)) (all : List Uan) → more ≡ names ++ again_by now e.1 → it ≡ e ∷ rest → names ++ again_in now it ≡ all → more ++ again_in now rest ≡ all
  unfolding again_in
  again_step names more e it rest all new is before =
      ap (λ us. us ++ again_in now rest) new ∙ append_assoc names (again_by now e.1) (again_in now rest)
      ∙ ap (λ es. names ++ again_in now es) (sym is) ∙ before

  -- no entry is left
  pub again_end : {K : Type 0} (names : List Uan) (it : List (K × Option Question)) (all : List Uan) → it ≡ [] → names ++ again_in now it ≡ all → names ≡ all
  unfolding again_in
  again_end names it all none before = sym (append-nil names) ∙ ap (λ es. names ++ again_in now es) (sym none) ∙ before

  -- an entry that isn't asked again
  pub again_skip : {K : Type 0} (e : K × Option Question) (it rest : List (K × Option Question)) (all : List Uan) → is_again_by now e.1 ≡ false → it ≡ e ∷ rest → again_in now it ≡ all → again_in now rest ≡ all
  unfolding again_in
  again_skip e it rest all isnt is before = at e.1 isnt (ap (again_in now) (sym is) ∙ before)
    where
      by : (q : Question) (b : Bool) → b ≡ false → (if b then q.name ∷ [] else []) ++ again_in now rest ≡ all → again_in now rest ≡ all
      by q true no_again h = absurd (true≢false no_again)
      by q false no_again h = h

      at : (o : Option Question) → is_again_by now o ≡ false → again_by now o ++ again_in now rest ≡ all → again_in now rest ≡ all
      at None no_again h = h
      at (Some q) no_again h = by q (is_asked_again now q.asking) no_again h

  -- one that is
  pub again_some : {K : Type 0} (e : K × Option Question) (it rest : List (K × Option Question)) (all : List Uan) → is_again_by now e.1 ≡ true → it ≡ e ∷ rest → again_in now it ≡ all → true ≡ not (is_none all)
  unfolding again_in
  again_some e it rest all again is before = at e.1 again (ap (again_in now) (sym is) ∙ before)
    where
      by : (q : Question) (b : Bool) → b ≡ true → (if b then q.name ∷ [] else []) ++ again_in now rest ≡ all → true ≡ not (is_none all)
      by q true again h = ap (λ us. not (is_none us)) h
      by q false again h = absurd (true≢false (sym again))

      at : (o : Option Question) → is_again_by now o ≡ true → again_by now o ++ again_in now rest ≡ all → true ≡ not (is_none all)
      at None again h = absurd (true≢false (sym again))
      at (Some q) again h = by q (is_asked_again now q.asking) again h

  pub again_none : {K : Type 0} (it : List (K × Option Question)) (all : List Uan) → it ≡ [] → again_in now it ≡ all → false ≡ not (is_none all)
  unfolding again_in
  again_none it all none before = ap (λ us. not (is_none us)) (ap (again_in now) (sym none) ∙ before)
