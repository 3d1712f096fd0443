-- What a reader sees of queues after a change, and what joining gives.
use Rattle.std.proofs.Common.{◌≡◌, Bool, true, false, cond, not, IsTrue, ◌&&◌, ◌||◌, T, List, [], ◌∷◌, ◌++◌, map, Option, Some, None, refl, sym, ap, subst, ◌∙◌, true≢false, append-nil, Ordering, Less, Equal, Greater}
use Rattle.std.specs.Ordering.{is_lt, is_eq}
use Rattle.std.specs.List.{filter, list_any}
use Rattle.std.specs.Option.{unwrap_or, option_and_then}
use Rattle.std.proofs.lemmas.Cmp.{nat_list_cmp_total}
use Rattle.std.specs.FinMap as fm
use Rattle.std.specs.FinMap.Entries as ordered
use Rattle.sal_value.specs.Table.{TableKey, Table, key_cmp, key_eq, write}
use Rattle.sal_value.proofs.Tables.{same_words, words_refl, same_table, get-write}
use Rattle.sal_queues.specs.Queues.{Queues, queue_of, if_filled, is_filled, filled, with_more, joined_entries, joined}

left : (a b : Bool) → T (a && b) → T a
left true b h = tt
left false b h = absurd h

right : (a b : Bool) → T (a && b) → T b
right true b h = h
right false b h = absurd h

-- a key isn't among those above it
pub none_below : {X : Type 0} (k q : TableKey) (es : List (TableKey × X)) → T (ordered.below_all key_cmp k es) → key_eq q k ≡ true → ordered.find key_cmp q es ≡ None
none_below k q [] h same = refl
none_below k q (e ∷ es) h same =
    ap (λ b. cond b (Some e.1) (ordered.find key_cmp q es)) (ap (λ w. key_eq w e.0) (same_words q k same) ∙ apart (key_cmp k e.0) (left _ _ h))
    ∙ none_below k q es (right (is_lt (key_cmp k e.0)) _ h) same
  where
    apart : (o : Ordering) → T (is_lt o) → is_eq o ≡ false
    apart Less p = refl
    apart Equal p = absurd p
    apart Greater p = refl

-- the first key of a table isn't among the others
pub none_after : {X : Type 0} (t more : Table X) (k q : TableKey) (x : X) → fm.entries t ≡ (k, x) ∷ fm.entries more → key_eq q k ≡ true → fm.get more q ≡ None
none_after t more k q x is same = fm.get-entries more q ∙ none_below k q (fm.entries more) (left _ _ (subst_sorted is)) same
  where
    subst_sorted : fm.entries t ≡ (k, x) ∷ fm.entries more → T (ordered.is_sorted key_cmp ((k, x) ∷ fm.entries more))
    subst_sorted e = subst (λ es. T (ordered.is_sorted key_cmp es)) e (fm.entries_sorted t)

pub get_after : {X : Type 0} (t more : Table X) (k q : TableKey) (x : X) → fm.entries t ≡ (k, x) ∷ fm.entries more → fm.get t q ≡ cond (key_eq q k) (Some x) (fm.get more q)
get_after t more k q x is = fm.get-entries t q ∙ ap (ordered.find key_cmp q) is ∙ ap (cond (key_eq q k) (Some x)) (sym (fm.get-entries more q))

module _ {X : Type 0} where
  -- ---- what a reader sees

  find-filled : (es : List (TableKey × List X)) → T (ordered.is_sorted key_cmp es) → (q : TableKey) → ordered.find key_cmp q (filter (λ e. is_filled e.1) es) ≡ option_and_then if_filled (ordered.find key_cmp q es)
  find-filled [] h q = refl
  find-filled (e ∷ es) h q = at e.1 (key_eq q e.0) refl (find-filled es (right (ordered.below_all key_cmp e.0 es) _ h) q)
    where
      at : (xs : List X) (b : Bool) → key_eq q e.0 ≡ b → ordered.find key_cmp q (filter (λ e. is_filled e.1) es) ≡ option_and_then if_filled (ordered.find key_cmp q es) → ordered.find key_cmp q (cond (is_filled xs) ((e.0, xs) ∷ filter (λ e. is_filled e.1) es) (filter (λ e. is_filled e.1) es)) ≡ option_and_then if_filled (cond b (Some xs) (ordered.find key_cmp q es))
      at [] true is rest = rest ∙ ap (option_and_then if_filled) (none_below e.0 q es (left _ _ h) is)
      at [] false is rest = rest
      at (x ∷ xs) true is rest = ap (λ b. cond b (Some (x ∷ xs)) (ordered.find key_cmp q (filter (λ e. is_filled e.1) es))) is
      at (x ∷ xs) false is rest = ap (λ b. cond b (Some (x ∷ xs)) (ordered.find key_cmp q (filter (λ e. is_filled e.1) es))) is ∙ rest

  pub get-filled : (t : Queues X) (q : TableKey) → fm.get (filled t) q ≡ option_and_then if_filled (fm.get t q)
  unfolding filled
  get-filled t q =
      fm.get-from_entries nat_list_cmp_total (filter (λ e. is_filled e.1) (fm.entries t)) q
      ∙ find-filled (fm.entries t) (fm.entries_sorted t) q
      ∙ ap (option_and_then if_filled) (sym (fm.get-entries t q))

  list_of_filled : (xs : List X) → unwrap_or (if_filled xs) [] ≡ xs
  list_of_filled [] = refl
  list_of_filled (x ∷ xs) = refl

  filled_of_list : (o : Option (List X)) → option_and_then if_filled o ≡ if_filled (unwrap_or o [])
  filled_of_list None = refl
  filled_of_list (Some xs) = refl

  -- a reader sees a queue where there is one
  pub filled_is : (t : Queues X) (q : TableKey) → fm.get (filled t) q ≡ if_filled (queue_of q t)
  filled_is t q = get-filled t q ∙ filled_of_list (fm.get t q)

  -- and sees the same queues
  pub queue_of-filled : (t : Queues X) (q : TableKey) → queue_of q (filled t) ≡ queue_of q t
  queue_of-filled t q = ap (λ o. unwrap_or o []) (filled_is t q) ∙ list_of_filled (queue_of q t)

  -- tables with the same queues look the same
  pub same_filled : (t u : Queues X) → ((q : TableKey) → queue_of q t ≡ queue_of q u) → filled t ≡ filled u
  same_filled t u is = same_table _ _ (λ q. filled_is t q ∙ ap if_filled (is q) ∙ sym (filled_is u q))

  pub filled-filled : (t : Queues X) → filled (filled t) ≡ filled t
  filled-filled t = same_filled (filled t) t (queue_of-filled t)

  pub filled-empty : filled (fm.empty {X = List X} {R = key_cmp}) ≡ fm.empty
  filled-empty = same_table _ _ (λ q. get-filled fm.empty q ∙ ap (option_and_then if_filled) (fm.get-empty key_cmp q) ∙ sym (fm.get-empty key_cmp q))

  pub filled-write : (t : Queues X) (k : TableKey) (o : Option (List X)) → filled (write t k o) ≡ write (filled t) k (option_and_then if_filled o)
  filled-write t k o = same_table _ _ (λ q.
      get-filled (write t k o) q ∙ ap (option_and_then if_filled) (get-write t k o q)
      ∙ at q (key_eq q k)
      ∙ sym (get-write (filled t) k (option_and_then if_filled o) q))
    where
      at : (q : TableKey) (b : Bool) → option_and_then if_filled (cond b o (fm.get t q)) ≡ cond b (option_and_then if_filled o) (fm.get (filled t) q)
      at q true = refl
      at q false = sym (get-filled t q)

  pub queue_of-write : (t : Queues X) (k : TableKey) (o : Option (List X)) (q : TableKey) → queue_of q (write t k o) ≡ cond (key_eq q k) (unwrap_or o []) (queue_of q t)
  queue_of-write t k o q = ap (λ p. unwrap_or p []) (get-write t k o q) ∙ at (key_eq q k)
    where
      at : (b : Bool) → unwrap_or (cond b o (fm.get t q)) [] ≡ cond b (unwrap_or o []) (queue_of q t)
      at true = refl
      at false = refl

  filled_push : (xs : List X) (x : X) → if_filled (xs ++ x ∷ []) ≡ Some (xs ++ x ∷ [])
  filled_push [] x = refl
  filled_push (y ∷ ys) x = refl

  -- one more
  pub pushed : (t : Queues X) (k : TableKey) (xs : List X) (x : X) → queue_of k t ≡ xs → filled (write t k (Some (xs ++ x ∷ []))) ≡ write (filled t) k (Some (queue_of k (filled t) ++ x ∷ []))
  pushed t k xs x is =
      filled-write t k (Some (xs ++ x ∷ []))
      ∙ ap (write (filled t) k) (filled_push xs x ∙ ap (λ ys. Some (ys ++ x ∷ [])) (sym is ∙ sym (queue_of-filled t k)))

  -- more at the end of a queue
  pub extended : (t : Queues X) (k : TableKey) (xs : List X) → filled (write t k (Some (queue_of k t ++ xs))) ≡ with_more k xs (filled t)
  extended t k xs =
      filled-write t k (Some (queue_of k t ++ xs))
      ∙ ap (λ ys. write (filled t) k (if_filled (ys ++ xs))) (sym (queue_of-filled t k))

  -- ---- whether there is any

  no-filled_entries : (es : List (TableKey × List X)) → list_any (λ e. is_filled e.1) es ≡ false → filter (λ e. is_filled e.1) es ≡ []
  no-filled_entries [] h = refl
  no-filled_entries (e ∷ es) h = at e.1 (no-filled_entries es) h
    where
      at : (xs : List X) → (list_any (λ e. is_filled e.1) es ≡ false → filter (λ e. is_filled e.1) es ≡ []) → (is_filled xs || list_any (λ e. is_filled e.1) es) ≡ false → cond (is_filled xs) ((e.0, xs) ∷ filter (λ e. is_filled e.1) es) (filter (λ e. is_filled e.1) es) ≡ []
      at [] rest g = rest g
      at (x ∷ xs) rest g = absurd (true≢false g)

  pub filled-none : (t : Queues X) → list_any (λ e. is_filled e.1) (fm.entries t) ≡ false → filled t ≡ fm.empty
  unfolding filled
  filled-none t h = ap fm.from_entries (no-filled_entries (fm.entries t) h)

  no_list : (xs : List X) → if_filled xs ≡ None → is_filled xs ≡ false
  no_list [] e = refl
  no_list (x ∷ xs) e = absurd (let f : Some (x ∷ xs) ≡ None = e in cc)

  none-any : (es : List (TableKey × List X)) → T (ordered.is_sorted key_cmp es) → ((q : TableKey) → option_and_then if_filled (ordered.find key_cmp q es) ≡ None) → list_any (λ e. is_filled e.1) es ≡ false
  none-any [] h none = refl
  none-any (e ∷ es) h none =
      ap (λ b. b || list_any (λ e. is_filled e.1) es) (no_list e.1 first)
      ∙ none-any es (right (ordered.below_all key_cmp e.0 es) _ h) (λ q. at q (key_eq q e.0) refl)
    where
      first : if_filled e.1 ≡ None
      first = ap (λ b. option_and_then if_filled (cond b (Some e.1) (ordered.find key_cmp e.0 es))) (sym (words_refl e.0)) ∙ none e.0

      at : (q : TableKey) (b : Bool) → key_eq q e.0 ≡ b → option_and_then if_filled (ordered.find key_cmp q es) ≡ None
      at q true is = ap (option_and_then if_filled) (none_below e.0 q es (left _ _ h) is)
      at q false is = ap (λ b. option_and_then if_filled (cond b (Some e.1) (ordered.find key_cmp q es))) (sym is) ∙ none q

  pub none-filled : (t : Queues X) → filled t ≡ fm.empty → list_any (λ e. is_filled e.1) (fm.entries t) ≡ false
  none-filled t is = none-any (fm.entries t) (fm.entries_sorted t) (λ q.
      ap (option_and_then if_filled) (sym (fm.get-entries t q)) ∙ sym (get-filled t q) ∙ ap (λ u. fm.get u q) is ∙ fm.get-empty key_cmp q)

  pub whether_none : (b : Bool) (t : Queues X) → b ≡ list_any (λ e. is_filled e.1) (fm.entries t) → (IsTrue (not b) → filled t ≡ fm.empty) × (filled t ≡ fm.empty → IsTrue (not b))
  whether_none true t e = (λ h. absurd (true≢false (sym h)), λ h. absurd (true≢false (e ∙ none-filled t h)))
  whether_none false t e = (λ h. filled-none t (sym e), λ h. refl)

  -- ---- joining

  queue_of-with_more : (k : TableKey) (xs : List X) (t : Queues X) (q : TableKey) → queue_of q (with_more k xs t) ≡ cond (key_eq q k) (queue_of k t ++ xs) (queue_of q t)
  queue_of-with_more k xs t q =
      queue_of-write t k (if_filled (queue_of k t ++ xs)) q
      ∙ ap (λ ys. cond (key_eq q k) ys (queue_of q t)) (list_of_filled (queue_of k t ++ xs))

  find-joined : (es : List (TableKey × List X)) → T (ordered.is_sorted key_cmp es) → (t : Queues X) (q : TableKey) → queue_of q (joined_entries es t) ≡ queue_of q t ++ unwrap_or (ordered.find key_cmp q es) []
  find-joined [] h t q = sym (append-nil (queue_of q t))
  find-joined (e ∷ es) h t q =
      find-joined es (right (ordered.below_all key_cmp e.0 es) _ h) (with_more e.0 e.1 t) q
      ∙ ap (λ ys. ys ++ unwrap_or (ordered.find key_cmp q es) []) (queue_of-with_more e.0 e.1 t q)
      ∙ at (key_eq q e.0) refl
    where
      at : (b : Bool) → key_eq q e.0 ≡ b → cond b (queue_of e.0 t ++ e.1) (queue_of q t) ++ unwrap_or (ordered.find key_cmp q es) [] ≡ queue_of q t ++ unwrap_or (cond b (Some e.1) (ordered.find key_cmp q es)) []
      at true is =
          ap (λ o. (queue_of e.0 t ++ e.1) ++ unwrap_or o []) (none_below e.0 q es (left _ _ h) is)
          ∙ append-nil (queue_of e.0 t ++ e.1)
          ∙ ap (λ k. queue_of k t ++ e.1) (sym (same_words q e.0 is))
      at false is = refl

  -- each queue is the old one, and then what is added
  pub queue_of-joined : (more t : Queues X) (q : TableKey) → queue_of q (joined more t) ≡ queue_of q t ++ queue_of q more
  unfolding joined
  queue_of-joined more t q =
      find-joined (fm.entries more) (fm.entries_sorted more) t q
      ∙ ap (λ o. queue_of q t ++ unwrap_or o []) (sym (fm.get-entries more q))

  -- no empty list is there
  abbrev IsFilled : Queues X → Type 0
  IsFilled t = (q : TableKey) → fm.get t q ≡ if_filled (queue_of q t)

  filled-with_more : (k : TableKey) (xs : List X) (t : Queues X) → IsFilled t → IsFilled (with_more k xs t)
  filled-with_more k xs t h q =
      get-write t k (if_filled (queue_of k t ++ xs)) q
      ∙ at (key_eq q k)
      ∙ ap if_filled (sym (queue_of-with_more k xs t q))
    where
      at : (b : Bool) → cond b (if_filled (queue_of k t ++ xs)) (fm.get t q) ≡ if_filled (cond b (queue_of k t ++ xs) (queue_of q t))
      at true = refl
      at false = h q

  filled-joined_entries : (es : List (TableKey × List X)) (t : Queues X) → IsFilled t → IsFilled (joined_entries es t)
  filled-joined_entries [] t h = h
  filled-joined_entries (e ∷ es) t h = filled-joined_entries es (with_more e.0 e.1 t) (filled-with_more e.0 e.1 t h)

  filled-joined : (more t : Queues X) → IsFilled t → IsFilled (joined more t)
  unfolding joined
  filled-joined more t h = filled-joined_entries (fm.entries more) t h

  -- what is seen at a key once `more` is joined
  pub get-joined : (more t : Queues X) (q : TableKey) → fm.get (joined more (filled t)) q ≡ if_filled (queue_of q t ++ queue_of q more)
  get-joined more t q =
      filled-joined more (filled t) (λ k. filled_is t k ∙ ap if_filled (sym (queue_of-filled t k))) q
      ∙ ap if_filled (queue_of-joined more (filled t) q ∙ ap (λ xs. xs ++ queue_of q more) (queue_of-filled t q))

  -- empty lists of `more` mean nothing either
  pub joined-filled : (more t : Queues X) → joined (filled more) (filled t) ≡ joined more (filled t)
  joined-filled more t = same_table _ _ (λ q.
      get-joined (filled more) t q
      ∙ ap (λ xs. if_filled (queue_of q t ++ xs)) (queue_of-filled more q)
      ∙ sym (get-joined more t q))

-- whether a list of entries has a queue, against the table
module _ {K X : Type 0} (words : K → TableKey) where
  any-map : (es : List (K × List X)) → list_any (λ (e : K × List X). is_filled e.1) es ≡ list_any (λ (e : TableKey × List X). is_filled e.1) (map (λ e. (words e.0, e.1)) es)
  any-map [] = refl
  any-map (e ∷ es) = ap (λ b. is_filled e.1 || b) (any-map es)

  pub any_words : (es : List (K × List X)) (t : Queues X) → map (λ e. (words e.0, e.1)) es ≡ fm.entries t → list_any (λ (e : K × List X). is_filled e.1) es ≡ list_any (λ (e : TableKey × List X). is_filled e.1) (fm.entries t)
  any_words es t is = any-map es ∙ ap (list_any (λ (e : TableKey × List X). is_filled e.1)) is
