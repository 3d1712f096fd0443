-- The laws of tables whose entries may be empty: what values they have after a change, and what they do to another
-- table as a list of changes.
use Rattle.std.proofs.Common.{◌≡◌, ◌<◌, Bool, true, false, cond, ◌&&◌, ◌||◌, T, List, [], ◌∷◌, length, Option, Some, None, is_some, not, IsTrue, refl, sym, ap, subst, ◌∙◌, arith, true≢false, Ordering, Less, Equal, Greater}
use Rattle.std.specs.Ordering.{is_lt, is_eq}
use Rattle.std.specs.List.{fold, list_any}
use Rattle.std.specs.Option.{option_flatten, option_map, unwrap_or}
use Rattle.std.proofs.lemmas.Cmp.{nat_list_cmp_total}
use Rattle.std.specs.FinMap as fm
use Rattle.std.specs.FinMap.Entries as ordered
use Rattle.sal_value.specs.Table.{TableKey, Table, key_cmp, key_eq, write}
use Rattle.sal_value.proofs.Tables.{same_words, words_refl, same_table, get-write}
use Rattle.sal_entries.specs.Entries.{Entries, value_at, with_room, with_room_by, before_values, value_entries, values, after_changes, overlaid, HasRoomFor, word_entries}

left : (a b : Bool) → T (a && b) → T a
left true b h = tt
left false b h = absurd h

right : (a b : Bool) → T (a && b) → T b
right true b h = h
right false b h = absurd h

-- a key isn't among those above it
none_below : {X : Type 0} (k q : TableKey) (es : List (TableKey × X)) → T (ordered.below_all key_cmp k es) → key_eq q k ≡ true → ordered.find key_cmp q es ≡ None
none_below k q [] h same = refl
none_below k q (e ∷ es) h same =
    ap (λ b. cond b (Some e.1) (ordered.find key_cmp q es)) (ap (λ w. key_eq w e.0) (same_words q k same) ∙ apart (key_cmp k e.0) (left _ _ h))
    ∙ none_below k q es (right (is_lt (key_cmp k e.0)) _ h) same
  where
    apart : (o : Ordering) → T (is_lt o) → is_eq o ≡ false
    apart Less p = refl
    apart Equal p = absurd p
    apart Greater p = refl

-- ---- the values

module _ {V : Type 0} where
  find-values : (es : List (TableKey × Option V)) → T (ordered.is_sorted key_cmp es) → (q : TableKey) → ordered.find key_cmp q (value_entries es) ≡ option_flatten (ordered.find key_cmp q es)
  find-values [] h q = refl
  find-values (e ∷ es) h q = at e.1 (key_eq q e.0) refl (find-values es (right (ordered.below_all key_cmp e.0 es) _ h) q)
    where
      at : (o : Option V) (b : Bool) → key_eq q e.0 ≡ b → ordered.find key_cmp q (value_entries es) ≡ option_flatten (ordered.find key_cmp q es) → ordered.find key_cmp q (before_values e.0 o (value_entries es)) ≡ option_flatten (cond b (Some o) (ordered.find key_cmp q es))
      at None true is rest = rest ∙ ap option_flatten (none_below e.0 q es (left _ _ h) is)
      at None false is rest = rest
      at (Some v) true is rest = ap (λ b. cond b (Some v) (ordered.find key_cmp q (value_entries es))) is
      at (Some v) false is rest = ap (λ b. cond b (Some v) (ordered.find key_cmp q (value_entries es))) is ∙ rest

  -- the value of a key is that of its entry
  pub get-values : (t : Entries V) (q : TableKey) → fm.get (values t) q ≡ value_at t q
  unfolding values
  get-values t q =
      fm.get-from_entries nat_list_cmp_total (value_entries (fm.entries t)) q
      ∙ find-values (fm.entries t) (fm.entries_sorted t) q
      ∙ ap option_flatten (sym (fm.get-entries t q))

  pub values-empty : values (fm.empty {X = Option V} {R = key_cmp}) ≡ fm.empty
  values-empty = same_table _ _ (λ q. get-values fm.empty q ∙ ap option_flatten (fm.get-empty key_cmp q) ∙ sym (fm.get-empty key_cmp q))

  -- a change of an entry changes the value, which an empty entry lacks as no entry does
  pub values-write : (t : Entries V) (k : TableKey) (o : Option (Option V)) → values (write t k o) ≡ write (values t) k (option_flatten o)
  values-write t k o = same_table _ _ (λ q.
      get-values (write t k o) q ∙ ap option_flatten (get-write t k o q)
      ∙ at q (key_eq q k)
      ∙ sym (get-write (values t) k (option_flatten o) q))
    where
      at : (q : TableKey) (b : Bool) → option_flatten (cond b o (fm.get t q)) ≡ cond b (option_flatten o) (fm.get (values t) q)
      at q true = refl
      at q false = sym (get-values t q)

  -- room changes no value
  pub values-with_room : (t : Entries V) (k : TableKey) → values (with_room k t) ≡ values t
  unfolding with_room
  values-with_room t k = by (fm.get t k) refl
    where
      at : (q : TableKey) (b : Bool) → fm.get t k ≡ None → key_eq q k ≡ b → cond b None (fm.get (values t) q) ≡ fm.get (values t) q
      at q true none is = sym (get-values t q ∙ ap option_flatten (ap (fm.get t) (same_words q k is) ∙ none))
      at q false none is = refl

      by : (o : Option (Option V)) → fm.get t k ≡ o → values (with_room_by o k t) ≡ values t
      by None none = values-write t k (Some None) ∙ same_table _ _ (λ q. get-write (values t) k None q ∙ at q (key_eq q k) none refl)
      by (Some o) there = refl

  -- with room there is an entry
  pub has-room : (t : Entries V) (k : TableKey) → fm.contains_key (with_room k t) k ≡ true
  unfolding with_room
  has-room t k = by (fm.get t k) refl
    where
      by : (o : Option (Option V)) → fm.get t k ≡ o → fm.contains_key (with_room_by o k t) k ≡ true
      by None none = ap is_some (get-write t k (Some None) k ∙ ap (λ b. cond b (Some None) (fm.get t k)) (words_refl k))
      by (Some o) there = ap is_some there

  pub room_there : (t : Entries V) (k : TableKey) → fm.contains_key t k ≡ true → t ≡ with_room k t
  unfolding with_room
  room_there t k had = at (fm.get t k) had
    where
      at : (o : Option (Option V)) → is_some o ≡ true → t ≡ with_room_by o k t
      at None h = absurd (true≢false (sym h))
      at (Some o) h = refl

  pub room_made : (t : Entries V) (k : TableKey) → fm.contains_key t k ≡ false → write t k (Some None) ≡ with_room k t
  unfolding with_room
  room_made t k had = at (fm.get t k) had
    where
      at : (o : Option (Option V)) → is_some o ≡ false → write t k (Some None) ≡ with_room_by o k t
      at None h = refl
      at (Some o) h = absurd (true≢false h)

  -- room for one key is kept where another takes room
  pub keeps-room : (t : Entries V) (k q : TableKey) → fm.contains_key t q ≡ true → fm.contains_key (with_room k t) q ≡ true
  unfolding with_room
  keeps-room t k q had = by (fm.get t k)
    where
      at : (b : Bool) → is_some (cond b (Some None) (fm.get t q)) ≡ true
      at true = refl
      at false = had

      by : (o : Option (Option V)) → fm.contains_key (with_room_by o k t) q ≡ true
      by None = ap is_some (get-write t k (Some None) q) ∙ at (key_eq q k)
      by (Some o) = had

  -- and where an entry is put
  pub keeps-put : (t : Entries V) (k q : TableKey) (o : Option V) → fm.contains_key t q ≡ true → fm.contains_key (write t k (Some o)) q ≡ true
  keeps-put t k q o had = ap is_some (get-write t k (Some o) q) ∙ at (key_eq q k)
    where
      at : (b : Bool) → is_some (cond b (Some o) (fm.get t q)) ≡ true
      at true = refl
      at false = had

  -- ---- no value

  no-value_entries : (es : List (TableKey × Option V)) → list_any (λ e. is_some e.1) es ≡ false → value_entries es ≡ []
  no-value_entries [] h = refl
  no-value_entries (e ∷ es) h = at e.1 (no-value_entries es) h
    where
      at : (o : Option V) → (list_any (λ e. is_some e.1) es ≡ false → value_entries es ≡ []) → (is_some o || list_any (λ e. is_some e.1) es) ≡ false → before_values e.0 o (value_entries es) ≡ []
      at None rest g = rest g
      at (Some v) rest g = absurd (true≢false g)

  -- where no entry has a value, there is none
  pub values-none : (t : Entries V) → list_any (λ e. is_some e.1) (fm.entries t) ≡ false → values t ≡ fm.empty
  unfolding values
  values-none t h = ap fm.from_entries (no-value_entries (fm.entries t) h)

  none-any : (es : List (TableKey × Option V)) → T (ordered.is_sorted key_cmp es) → ((q : TableKey) → option_flatten (ordered.find key_cmp q es) ≡ None) → list_any (λ e. is_some e.1) es ≡ false
  none-any [] h none = refl
  none-any (e ∷ es) h none =
      ap (λ (o : Option V). is_some o || list_any (λ e. is_some e.1) es) first
      ∙ none-any es (right (ordered.below_all key_cmp e.0 es) _ h) (λ q. at q (key_eq q e.0) refl)
    where
      first : e.1 ≡ None
      first = ap (λ b. option_flatten (cond b (Some e.1) (ordered.find key_cmp e.0 es))) (sym (words_refl e.0)) ∙ none e.0

      at : (q : TableKey) (b : Bool) → key_eq q e.0 ≡ b → option_flatten (ordered.find key_cmp q es) ≡ None
      at q true is = ap option_flatten (none_below e.0 q es (left _ _ h) is)
      at q false is = ap (λ b. option_flatten (cond b (Some e.1) (ordered.find key_cmp q es))) (sym is) ∙ none q

  -- and the other way round
  pub none-values : (t : Entries V) → values t ≡ fm.empty → list_any (λ e. is_some e.1) (fm.entries t) ≡ false
  none-values t is = none-any (fm.entries t) (fm.entries_sorted t) (λ q.
      ap option_flatten (sym (fm.get-entries t q)) ∙ sym (get-values t q) ∙ ap (λ u. fm.get u q) is ∙ fm.get-empty key_cmp q)

  pub whether_none : (b : Bool) (t : Entries V) → b ≡ list_any (λ e. is_some e.1) (fm.entries t) → (IsTrue (not b) → values t ≡ fm.empty) × (values t ≡ fm.empty → IsTrue (not b))
  whether_none true t e = (λ h. absurd (true≢false (sym h)), λ h. absurd (true≢false (e ∙ none-values t h)))
  whether_none false t e = (λ h. values-none t (sym e), λ h. refl)

  -- ---- changes of another table

  find-after : (es : List (TableKey × Option V)) → T (ordered.is_sorted key_cmp es) → (b : Table V) (q : TableKey) → fm.get (after_changes es b) q ≡ unwrap_or (ordered.find key_cmp q es) (fm.get b q)
  find-after [] h b q = refl
  find-after (e ∷ es) h b q =
      find-after es (right (ordered.below_all key_cmp e.0 es) _ h) (write b e.0 e.1) q
      ∙ ap (unwrap_or (ordered.find key_cmp q es)) (get-write b e.0 e.1 q)
      ∙ at (key_eq q e.0) refl
    where
      at : (c : Bool) → key_eq q e.0 ≡ c → unwrap_or (ordered.find key_cmp q es) (cond c e.1 (fm.get b q)) ≡ unwrap_or (cond c (Some e.1) (ordered.find key_cmp q es)) (fm.get b q)
      at true is = ap (λ o. unwrap_or o e.1) (none_below e.0 q es (left _ _ h) is)
      at false is = refl

  -- at a key with an entry what the entry says, else what is there
  pub get-overlaid : (c : Entries V) (b : Table V) (q : TableKey) → fm.get (overlaid c b) q ≡ unwrap_or (fm.get c q) (fm.get b q)
  unfolding overlaid
  get-overlaid c b q = find-after (fm.entries c) (fm.entries_sorted c) b q ∙ ap (λ o. unwrap_or o (fm.get b q)) (sym (fm.get-entries c q))

  pub overlaid-empty : (b : Table V) → overlaid fm.empty b ≡ b
  overlaid-empty b = same_table _ _ (λ q. get-overlaid fm.empty b q ∙ ap (λ o. unwrap_or o (fm.get b q)) (fm.get-empty key_cmp q))

  -- one more change
  pub overlaid-write : (c : Entries V) (b : Table V) (k : TableKey) (o : Option V) → overlaid (write c k (Some o)) b ≡ write (overlaid c b) k o
  overlaid-write c b k o = same_table _ _ (λ q.
      get-overlaid (write c k (Some o)) b q
      ∙ ap (λ x. unwrap_or x (fm.get b q)) (get-write c k (Some o) q)
      ∙ at q (key_eq q k)
      ∙ sym (get-write (overlaid c b) k o q))
    where
      at : (q : TableKey) (d : Bool) → unwrap_or (cond d (Some o) (fm.get c q)) (fm.get b q) ≡ cond d o (fm.get (overlaid c b) q)
      at q true = refl
      at q false = sym (get-overlaid c b q)

  -- the first change is made and taken off
  pub overlaid-popped : (c more : Entries V) (b : Table V) (k : TableKey) (o : Option V) → fm.entries c ≡ (k, o) ∷ fm.entries more → overlaid c b ≡ overlaid more (write b k o)
  unfolding overlaid
  overlaid-popped c more b k o is = ap (λ es. after_changes es b) is

  -- the same where the table that changes is that of the values: an entry becomes what the change says, or leaves
  pub committed : (c more t : Entries V) (k : TableKey) (o : Option V) (entry : Option (Option V)) → option_flatten entry ≡ o → fm.entries c ≡ (k, o) ∷ fm.entries more → overlaid c (values t) ≡ overlaid more (values (write t k entry))
  committed c more t k o entry says is =
      overlaid-popped c more (values t) k o is
      ∙ ap (overlaid more) (ap (write (values t) k) (sym says) ∙ sym (values-write t k entry))

  -- all changes made, one after another
  pub overlaid-none : (c : Entries V) (b : Table V) → c ≡ fm.empty → overlaid c b ≡ b
  overlaid-none c b is = ap (λ d. overlaid d b) is ∙ overlaid-empty b

-- ---- the first entry leaves

module _ {X : Type 0} where
  -- the keys of the changes that are left are among those of all
  pub has-popped : (c more : Table X) (k : TableKey) (o : X) → fm.entries c ≡ (k, o) ∷ fm.entries more → (q : TableKey) → fm.contains_key more q ≡ true → fm.contains_key c q ≡ true
  has-popped c more k o is q had =
      ap is_some (fm.get-entries c q ∙ ap (ordered.find key_cmp q) is) ∙ at (key_eq q k)
    where
      at : (b : Bool) → is_some (cond b (Some o) (ordered.find key_cmp q (fm.entries more))) ≡ true
      at true = refl
      at false = ap is_some (sym (fm.get-entries more q)) ∙ had

  pub has-first : (c : Table X) (k : TableKey) (o : X) (more : List (TableKey × X)) → fm.entries c ≡ (k, o) ∷ more → fm.get c k ≡ Some o
  has-first c k o more is = fm.get-entries c k ∙ ap (ordered.find key_cmp k) is ∙ ap (λ b. cond b (Some o) (ordered.find key_cmp k more)) (words_refl k)

-- ---- room for each key of another table

or_right : (a b : Bool) → b ≡ true → (a || b) ≡ true
or_right true b h = refl
or_right false b h = h

or_keeps : (a b c : Bool) → (b ≡ true → c ≡ true) → (a || b) ≡ true → (a || c) ≡ true
or_keeps true b c f h = refl
or_keeps false b c f h = f h

module _ {X Y : Type 0} where
  -- the room of a key
  pub room-at : (more : Table X) (t : Table Y) → HasRoomFor more t → (k : TableKey) → fm.contains_key more k ≡ true → fm.contains_key t k ≡ true
  unfolding HasRoomFor
  room-at more t h = h

  pub room-through : {Z : Type 0} (a : Table X) (b : Table Y) (c : Table Z) → HasRoomFor a b → HasRoomFor b c → HasRoomFor a c
  unfolding HasRoomFor
  room-through a b c f g k h = g k (f k h)

  -- room for each key of `more` but those of the list
  abbrev pub HasRoomBut : List (TableKey × X) → Table X → Table Y → Type 0
  HasRoomBut es more t = (q : TableKey) → fm.contains_key more q ≡ true → (is_some (ordered.find key_cmp q es) || fm.contains_key t q) ≡ true

  pub room-start : (more : Table X) (t : Table Y) → HasRoomBut (fm.entries more) more t
  room-start more t q h = ap (λ b. b || fm.contains_key t q) (ap is_some (sym (fm.get-entries more q)) ∙ h)

  pub room-end : (more : Table X) (t : Table Y) → HasRoomBut [] more t → HasRoomFor more t
  unfolding HasRoomFor
  room-end more t h = h

pub room-empty : (X : Type 0) {Y : Type 0} (t : Table Y) → HasRoomFor (fm.empty {X = X} {R = key_cmp}) t
unfolding HasRoomFor
room-empty X t k h = absurd (true≢false (sym h ∙ ap is_some (fm.get-empty {X = X} key_cmp k)))

pub room-itself : {X : Type 0} (t : Table X) → HasRoomFor t t
unfolding HasRoomFor
room-itself t k h = h

module _ {V : Type 0} where
  -- room that is taken keeps all room
  pub room-more : (t : Entries V) (k : TableKey) → HasRoomFor t (with_room k t)
  unfolding HasRoomFor
  room-more t k q h = keeps-room t k q h

  pub room-step : {X : Type 0} (e : TableKey × X) (es : List (TableKey × X)) (more : Table X) (t : Entries V) → HasRoomBut (e ∷ es) more t → HasRoomBut es more (with_room e.0 t)
  room-step e es more t f q h = at (key_eq q e.0) refl (f q h)
    where
      at : (b : Bool) → key_eq q e.0 ≡ b → (is_some (cond b (Some e.1) (ordered.find key_cmp q es)) || fm.contains_key t q) ≡ true → (is_some (ordered.find key_cmp q es) || fm.contains_key (with_room e.0 t) q) ≡ true
      at true is g = or_right (is_some (ordered.find key_cmp q es)) _ (ap (fm.contains_key (with_room e.0 t)) (same_words q e.0 is) ∙ has-room t e.0)
      at false is g = or_keeps (is_some (ordered.find key_cmp q es)) _ _ (keeps-room t e.0 q) g

  -- the first change is made, and its entry may leave: the others have room still
  pub room-popped : {X : Type 0} (c more : Table X) (t : Entries V) (k : TableKey) (x : X) (entry : Option (Option V)) → fm.entries c ≡ (k, x) ∷ fm.entries more → HasRoomFor c t → HasRoomFor more (write t k entry)
  unfolding HasRoomFor
  room-popped c more t k x entry is f q h = ap is_some (get-write t k entry q) ∙ at (key_eq q k) refl
    where
      below : T (ordered.below_all key_cmp k (fm.entries more))
      below = left _ (ordered.is_sorted key_cmp (fm.entries more)) (subst (λ l. T (ordered.is_sorted key_cmp l)) is (fm.entries_sorted c))

      at : (b : Bool) → key_eq q k ≡ b → is_some (cond b entry (fm.get t q)) ≡ true
      at true same = absurd (true≢false (sym h ∙ ap is_some (fm.get-entries more q ∙ none_below k q (fm.entries more) below same)))
      at false same = f q (has-popped c more k x is q h)

  -- what becomes of an entry by a change: it has the value, or leaves
  pub says-value : (o : Option V) → option_flatten (option_map Some o) ≡ o
  says-value None = refl
  says-value (Some v) = refl

  pub changed-value : (b : Bool) (o : Option V) (t : Entries V) (k : TableKey) → b ≡ is_some o → b ≡ true → write t k (Some o) ≡ write t k (option_map Some o)
  changed-value b None t k e is = absurd (true≢false (sym is ∙ e))
  changed-value b (Some v) t k e is = refl

  pub changed-none : (b : Bool) (o : Option V) (t : Entries V) (k : TableKey) → b ≡ is_some o → b ≡ false → write t k None ≡ write t k (option_map Some o)
  changed-none b None t k e is = refl
  changed-none b (Some v) t k e is = absurd (true≢false (sym e ∙ is))

  -- a turn of the loop that makes room for the keys of `more`, where e is the next of its entries
  pub room-turn : {X : Type 0} (e : TableKey × X) (es : List (TableKey × X)) (more : Table X) (first old new : Entries V)
      → new ≡ with_room e.0 old → HasRoomBut (e ∷ es) more old → HasRoomFor first old → values old ≡ values first
      → HasRoomBut es more new × HasRoomFor first new × (values new ≡ values first)
  room-turn e es more first old new is but had same =
      subst (λ t. HasRoomBut es more t × HasRoomFor first t × (values t ≡ values first)) (sym is)
      (room-step e es more old but, room-through first old (with_room e.0 old) had (room-more old e.0), values-with_room old e.0 ∙ same)

  -- a turn of the loop that makes the changes, of which the first is of o at k
  pub absorb-turn : (left more old new : Entries V) (k : TableKey) (o : Option V) (aim : Table V)
      → fm.entries left ≡ (k, o) ∷ fm.entries more → new ≡ write old k (option_map Some o) → HasRoomFor left old → overlaid left (values old) ≡ aim
      → HasRoomFor more new × (overlaid more (values new) ≡ aim)
  absorb-turn left more old new k o aim first is had same =
      subst (λ t. HasRoomFor more t × (overlaid more (values t) ≡ aim)) (sym is)
      (room-popped left more old k o (option_map Some o) first had, sym (committed left more old k o (option_map Some o) (says-value o) first) ∙ same)

pub shorter-popped : {X : Type 0} (c more : Table X) (e : TableKey × X) → fm.entries c ≡ e ∷ fm.entries more → fm.len more < fm.len c
shorter-popped c more e is = omega (arith, fm.len-entries c, fm.len-entries more, ap length is)

-- ---- lists of entries

module _ {K V : Type 0} (words : K → TableKey) where
  any-words : (es : List (K × Option V)) → list_any (λ e. is_some e.1) es ≡ list_any (λ e. is_some e.1) (word_entries words es)
  any-words [] = refl
  any-words (e ∷ es) = ap (λ b. is_some e.1 || b) (any-words es)

  after-words : (es : List (K × Option V)) (b : Table V) → fold (λ t e. write t (words e.0) e.1) b es ≡ after_changes (word_entries words es) b
  after-words [] b = refl
  after-words (e ∷ es) b = after-words es (write b (words e.0) e.1)

  -- the changes that a list gives in the order of keys, made one after another
  pub overlaid-list : (es : List (K × Option V)) (c : Entries V) (b : Table V) → word_entries words es ≡ fm.entries c → fold (λ t e. write t (words e.0) e.1) b es ≡ overlaid c b
  unfolding overlaid
  overlaid-list es c b is = after-words es b ∙ ap (λ l. after_changes l b) is

  -- whether a list has a value, against the table
  pub none-listed : (es : List (K × Option V)) (c : Entries V) → word_entries words es ≡ fm.entries c → list_any (λ e. is_some e.1) es ≡ list_any (λ e. is_some e.1) (fm.entries c)
  none-listed es c is = any-words es ∙ ap (list_any (λ e. is_some e.1)) is
