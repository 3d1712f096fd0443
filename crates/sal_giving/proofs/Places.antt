-- A place's value and the open joins.
use Rattle.std.proofs.Common.{◌≡◌, ◌≢◌, ℕ, Bool, true, false, cond, ◌&&◌, List, [], ◌∷◌, ◌++◌, map, Option, Some, None, ◌<◌, refl, sym, ap, ◌∙◌, ◌⊎◌, inl, inr, arith, true≢false}
use Rattle.std.specs.Prelude.{filter, filter_map, nat_lt, nat_eq, All}
use Rattle.std.specs.List.{list_all, cons_option}
use Rattle.std.specs.FinMap as fm
use Rattle.std.proofs.lemmas.Bool.{and_parts, ltb-true}
use Rattle.std.proofs.lemmas.Bool.Decides.{eqb_tells}
use Rattle.sal_value.specs.declared.name.Name.{Name}
use Rattle.sal_value.specs.declared.value.Value.{Value}
use Rattle.sal_mail.specs.declared.message.Reply.{Reply}
use Rattle.sal_mail.specs.declared.message.Join.{Join}
use Rattle.sal_mail.specs.Message.{with_slot, is_full, join_value}
use Rattle.sal_value.proofs.Keys.{same_names}
use Rattle.sal_source.specs.Table.{TableKey, Table, key_eq, write, table_of}
use Rattle.sal_source.specs.Keys.{name_key, made_key, join_key}
use Rattle.sal_source.specs.Give.{join_after_value, join_replies}
use Rattle.sal_source.specs.code.Lists.{first_at_key}
use Rattle.sal_source.proofs.Tables.{words_tells, words_refl, words_apart, same_words, same_table, get-table_of, get-write}
use Rattle.sal_book.specs.Book.{rise, join_numbers, has_number, if_open, join_after, filled_joins, full_replies, join_reply, is_legal_reply}
use Rattle.sal_book.proofs.Filling.{later_others, fills_first}
use Rattle.sal_book.proofs.Makers.{all_head, all_tail}
use Rattle.sal_giving.specs.Giving.{joins_of}
use Rattle.sal_giving.proofs.Firsts.{bool_cases, swap, not_both}

module _ (maker : Name) (number at : ℕ) (value : Value) where
  abbrev place_key : TableKey
  place_key = made_key maker number

  -- no other actor's join has the key
  none_other : (joins : List (Name × Join)) → All (λ j. j.0 ≢ maker) joins → first_at_key join_key place_key joins ≡ None
  none_other [] others = refl
  none_other (j ∷ joins) others =
      let differ : place_key ≢ join_key j = λ e. all_head (λ (j : Name × Join). j.0 ≢ maker) j joins others (same_names j.0 maker (let same : name_key maker ≡ name_key j.0 = cc in sym same)) in
      ap (λ b. cond b (Some j) (first_at_key join_key place_key joins)) (words_apart place_key (join_key j) differ)
      ∙ none_other joins (all_tail (λ (j : Name × Join). j.0 ≢ maker) j joins others)

  -- what stands at the key among the actor's joins and the others
  abbrev here : List Join → List (Name × Join) → Option (Name × Join)
  here js joins = first_at_key join_key place_key (joins_of maker js ++ joins)

  same_key : (j : Join) → has_number number j ≡ true → place_key ≡ join_key (maker, j)
  same_key j e = elim (eqb_tells j.number number) [ inl y ↦ ap (λ n. n ∷ name_key maker) (sym y.1) | inr n ↦ absurd (true≢false (sym e ∙ n.0)) ]

  other_key : (j : Join) → has_number number j ≡ false → key_eq place_key (join_key (maker, j)) ≡ false
  other_key j e = elim (eqb_tells j.number number) [
    | inl y ↦ absurd (true≢false (sym y.0 ∙ e))
    | inr n ↦ words_apart place_key (join_key (maker, j)) (λ same. n.1 (let f : number ≡ j.number = cc in sym f))
  ]

  -- the first join has the key
  found_here : (j : Join) (js : List Join) (joins : List (Name × Join)) → has_number number j ≡ true → here (j ∷ js) joins ≡ Some (maker, j)
  found_here j js joins e = ap (λ b. cond b (Some (maker, j)) (here js joins)) (ap (key_eq place_key) (sym (same_key j e)) ∙ words_refl place_key)

  found_later : (j : Join) (js : List Join) (joins : List (Name × Join)) → has_number number j ≡ false → here (j ∷ js) joins ≡ here js joins
  found_later j js joins e = ap (λ b. cond b (Some (maker, j)) (here js joins)) (other_key j e)

  -- greater numbers haven't
  none_greater : (js : List Join) (joins : List (Name × Join)) → list_all (nat_lt number) (join_numbers js) ≡ true → All (λ j. j.0 ≢ maker) joins → here js joins ≡ None
  none_greater [] joins above others = none_other joins others
  none_greater (j ∷ js) joins above others =
      let parts = and_parts (nat_lt number j.number) (list_all (nat_lt number) (join_numbers js)) above in
      let greater : number < j.number = ltb-true number j.number parts.0 in
      let other : has_number number j ≡ false = elim (eqb_tells j.number number) [ inl y ↦ absurd (let same : j.number ≡ number = y.1 in omega arith) | inr n ↦ n.0 ] in
      found_later j js joins other ∙ none_greater js joins parts.1 others

  none_later : (j : Join) (js : List Join) (joins : List (Name × Join)) → has_number number j ≡ true → rise (join_numbers (j ∷ js)) ≡ true → All (λ j. j.0 ≢ maker) joins → here js joins ≡ None
  none_later j js joins e rising others =
      let parts = and_parts (list_all (nat_lt j.number) (join_numbers js)) (rise (join_numbers js)) rising in
      let same : j.number ≡ number = elim (eqb_tells j.number number) [ inl y ↦ y.1 | inr n ↦ absurd (true≢false (sym e ∙ n.0)) ] in
      none_greater js joins (ap (λ n. list_all (nat_lt n) (join_numbers js)) (sym same) ∙ parts.0) others

  -- ---- what stands at any key

  none_written : (q : TableKey) (f : TableKey → Option (Name × Join)) → f place_key ≡ None → f q ≡ cond (key_eq q place_key) None (f q)
  none_written q f none = elim (words_tells q place_key) [
    | inl y ↦ ap f y.1 ∙ none ∙ sym (ap (λ b. cond b None (f q)) y.0)
    | inr n ↦ sym (ap (λ b. cond b None (f q)) n.0)
  ]

  twice : (b : Bool) (u v w : Option (Name × Join)) → cond b u w ≡ cond b u (cond b v w)
  twice true u v w = refl
  twice false u v w = refl

  -- what stands at a key once the value came
  abbrev after : TableKey → List Join → List (Name × Join) → Option (Name × Join)
  after q js joins = first_at_key join_key q (joins_of maker (filter_map (join_after number at value) js) ++ joins)

  -- what a write to the join gives there
  abbrev written : TableKey → List Join → List (Name × Join) → Option (Name × Join)
  written q js joins = cond (key_eq q place_key) (join_after_value at value (here js joins)) (first_at_key join_key q (joins_of maker js ++ joins))

  first_after : (q : TableKey) (j : Join) (js : List Join) (joins : List (Name × Join)) → has_number number j ≡ true → rise (join_numbers (j ∷ js)) ≡ true → All (λ j. j.0 ≢ maker) joins → after q (j ∷ js) joins ≡ written q (j ∷ js) joins
  first_after q j js joins e rising others =
      let later = later_others number at value j js e rising in
      ap (λ b. first_at_key join_key q (joins_of maker (cons_option (cond b (if_open (with_slot at value j)) (Some j)) (filter_map (join_after number at value) js)) ++ joins)) e
      ∙ ap (λ l. first_at_key join_key q (joins_of maker (cons_option (if_open (with_slot at value j)) l) ++ joins)) later.after
      ∙ left (is_full (with_slot at value j)) (none_later j js joins e rising others)
      ∙ twice (key_eq q place_key) (join_after_value at value (Some (maker, j))) (Some (maker, j)) (first_at_key join_key q (joins_of maker js ++ joins))
      ∙ (λ i. cond (key_eq q place_key) (join_after_value at value (sym (found_here j js joins e) i)) (cond (key_eq q (same_key j e i)) (Some (maker, j)) (first_at_key join_key q (joins_of maker js ++ joins))))
    where
      left : (full : Bool) → here js joins ≡ None
          → first_at_key join_key q (joins_of maker (cons_option (cond full None (Some (with_slot at value j))) js) ++ joins)
          ≡ cond (key_eq q place_key) (cond full None (Some (maker, with_slot at value j))) (first_at_key join_key q (joins_of maker js ++ joins))
      left true none = none_written q (λ k. first_at_key join_key k (joins_of maker js ++ joins)) none
      left false none = ap (λ k. cond (key_eq q k) (Some (maker, with_slot at value j)) (first_at_key join_key q (joins_of maker js ++ joins))) (sym (same_key j e))

  after_is : (q : TableKey) (js : List Join) (joins : List (Name × Join)) → rise (join_numbers js) ≡ true → All (λ j. j.0 ≢ maker) joins → after q js joins ≡ written q js joins
  after_is q [] joins rising others =
      none_written q (λ k. first_at_key join_key k joins) (none_other joins others)
      ∙ ap (λ o. cond (key_eq q place_key) (join_after_value at value o) (first_at_key join_key q joins)) (sym (none_other joins others))
  after_is q (j ∷ js) joins rising others =
      let parts = and_parts (list_all (nat_lt j.number) (join_numbers js)) (rise (join_numbers js)) rising in
      elim (bool_cases (has_number number j)) [
        | inl e ↦ first_after q j js joins e rising others
        | inr e ↦
            ap (λ b. first_at_key join_key q (joins_of maker (cons_option (cond b (if_open (with_slot at value j)) (Some j)) (filter_map (join_after number at value) js)) ++ joins)) e
            ∙ ap (cond (key_eq q (join_key (maker, j))) (Some (maker, j))) (after_is q js joins parts.1 others)
            ∙ swap (key_eq q (join_key (maker, j))) (key_eq q place_key) (Some (maker, j)) (join_after_value at value (here js joins)) (first_at_key join_key q (joins_of maker js ++ joins))
            (λ p r. not_both q place_key (join_key (maker, j)) (other_key j e) p r)
            ∙ ap (λ o. cond (key_eq q place_key) (join_after_value at value o) (first_at_key join_key q (joins_of maker (j ∷ js) ++ joins))) (sym (found_later j js joins e))
      ]

  -- the table of all joins after the value came, from the book's after it
  pub table_placed : (js : List Join) (joins : List (Name × Join)) → rise (join_numbers js) ≡ true → All (λ j. j.0 ≢ maker) joins
      → write (table_of join_key (joins_of maker js ++ joins)) (made_key maker number) (join_after_value at value (fm.get (table_of join_key (joins_of maker js ++ joins)) (made_key maker number)))
      ≡ table_of join_key (joins_of maker (filter_map (join_after number at value) js) ++ joins)
  table_placed js joins rising others =
      let all = joins_of maker js ++ joins in
      same_table _ _ (λ q.
      get-write (table_of join_key all) place_key (join_after_value at value (fm.get (table_of join_key all) place_key)) q
      ∙ (λ i. cond (key_eq q place_key) (join_after_value at value (get-table_of join_key all place_key i)) (get-table_of join_key all q i))
      ∙ sym (after_is q js joins rising others)
      ∙ sym (get-table_of join_key (joins_of maker (filter_map (join_after number at value) js) ++ joins) q))

  -- ---- the replies

  one_reply : (w : Join) (full : Bool) → filter is_legal_reply (cond full ((w.reply, join_value w) ∷ []) []) ≡ filter is_legal_reply (map join_reply (cond full (w ∷ []) []))
  one_reply w true = refl
  one_reply w false = refl

  replies_here : (js : List Join) (joins : List (Name × Join)) → rise (join_numbers js) ≡ true → All (λ j. j.0 ≢ maker) joins → filter is_legal_reply (join_replies at value (here js joins)) ≡ full_replies (filled_joins number at value js)
  replies_here [] joins rising others = ap (λ o. filter is_legal_reply (join_replies at value o)) (none_other joins others)
  replies_here (j ∷ js) joins rising others =
      let parts = and_parts (list_all (nat_lt j.number) (join_numbers js)) (rise (join_numbers js)) rising in
      elim (bool_cases (has_number number j)) [
        | inl e ↦
            let first = fills_first number at value j js e rising in
            ap (λ o. filter is_legal_reply (join_replies at value o)) (found_here j js joins e)
            ∙ one_reply (with_slot at value j) (is_full (with_slot at value j)) ∙ ap full_replies (sym first.filled)
        | inr e ↦
            ap (λ o. filter is_legal_reply (join_replies at value o)) (found_later j js joins e)
            ∙ replies_here js joins parts.1 others
            ∙ sym (ap (λ b. full_replies (map (with_slot at value) (cond b (j ∷ filter (has_number number) js) (filter (has_number number) js)))) e)
      ]

  -- the replies that the value makes due, but for an array that isn't legal, are those that the book releases
  pub replies_placed : (js : List Join) (joins : List (Name × Join)) → rise (join_numbers js) ≡ true → All (λ j. j.0 ≢ maker) joins
      → filter is_legal_reply (join_replies at value (fm.get (table_of join_key (joins_of maker js ++ joins)) (made_key maker number))) ≡ full_replies (filled_joins number at value js)
  replies_placed js joins rising others =
      ap (λ o. filter is_legal_reply (join_replies at value o)) (get-table_of join_key (joins_of maker js ++ joins) place_key)
      ∙ replies_here js joins rising others
