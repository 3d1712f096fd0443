-- What a handler leaves stands once.
use Rattle.std.proofs.Common.{◌≡◌, ◌≢◌, ◌⊎◌, inl, inr, ℕ, ◌+◌, ◌≤◌, Bool, true, false, not, cond, ◌||◌, List, [], ◌∷◌, ◌++◌, map, filter, Option, Some, None, refl, sym, ap, ◌∙◌, arith, true≢false}
use Rattle.std.specs.Prelude.{if◌then◌else◌, filter_map}
use Rattle.std.specs.List.{cons_option, list_all, list_any}
use Rattle.std.specs.Str.{bytes_eq}
use Rattle.std.proofs.lemmas.Slice.Eq.{bytes_eq-Decides}
use Rattle.std.proofs.lemmas.Cmp.{nat_list_cmp_total}
use Rattle.std.specs.FinSet as fs
use Rattle.sal_value.specs.declared.name.Name.{Name}
use Rattle.sal_value.specs.declared.name.Name.TheVariants as name
use Rattle.sal_value.proofs.Keys.{same_names}
use Rattle.sal_mail.specs.declared.message.Reply.{Reply}
use Rattle.sal_mail.specs.declared.message.Reply.TheVariants.{Nobody, Tok, Place, Outside}
use Rattle.sal_mail.specs.declared.message.Message.{Message}
use Rattle.sal_mail.specs.declared.message.Join.{Join}
use Rattle.sal_mail.specs.declared.effects.Actor.{Actor}
use Rattle.sal_mail.specs.declared.effects.Creation.{Creation}
use Rattle.sal_mail.specs.declared.effects.Answer.{Answer}
use Rattle.sal_mail.specs.declared.effects.Answer.TheVariants as answer
use Rattle.sal_mail.specs.declared.effects.Effects.{Effects}
use Rattle.sal_mail.specs.ReplyKeys.{reply_key, owes}
use Rattle.sal_mail.specs.Message.{is_full, join_value}
use Rattle.sal_handler.specs.WellFormed.{EachOf, one_if_same, IsWithin, IsNewReply, IsAllowedReply, IsGoodMessage, times_owed_by, passes, IsOrderly}
use Rattle.sal_handler.proofs.Addresses.{each_more}
use Rattle.sal_source.specs.Table.{TableKey, key_cmp, key_eq, total}
use Rattle.sal_source.specs.Keys.{name_key, made_key, message_key, actor_key}
use Rattle.sal_source.specs.Give.{DueReply}
use Rattle.sal_source.specs.Step as s
use Rattle.sal_source.proofs.Same.{total-append, total-map}
use Rattle.sal_source.proofs.Tables.{words_refl, words_tells}
use Rattle.sal_source.proofs.Keeping.{same_made, number_same, one_at_least, each_both, within, split, flipped}
use Rattle.sal_book.specs.Book.{is_open}
use Rattle.sal_pieces.specs.Pieces.{Thing, ActorThing, MessageThing, JoinThing, CreationThing, ReplyThing, message_thing}
use Rattle.sal_pieces.specs.Image.{anonymous_in, anonymous_name}
use Rattle.sal_pieces.specs.Once.{one_if_key, actor_key_in, message_key_in, join_key_in, creation_key_in, count_at_key, count_owed, StandOnce}
use Rattle.sal_pieces.specs.Steps.{actor_names, IsLate, IsBelow, actor_after}
use Rattle.sal_pieces.proofs.Entering.{total_parted}
use Rattle.sal_pieces.proofs.Stepping.{total_zero}

-- ---- what a handler makes, as things

abbrev pub opened_thing : Name → Join → Thing
opened_thing me j = JoinThing (me, j)

abbrev pub new_thing : Actor → Thing
new_thing x = ActorThing (x, 0)

abbrev pub made_thing : Name → Creation → Thing
made_thing me x = CreationThing (me, x)

abbrev pub made_things : Effects → Actor × ℕ → List Thing → List Thing
made_things e a ts =
    ActorThing (actor_after e a)
    ∷ (map message_thing e.messages ++ (map (opened_thing a.0.name) (filter is_open e.joins) ++ (map new_thing e.actors ++ (map (made_thing a.0.name) e.creations ++ ts))))

pub made_total : (f : Thing → ℕ) (e : Effects) (a : Actor × ℕ) (ts : List Thing) → total f (made_things e a ts)
    ≡ f (ActorThing (actor_after e a)) + (total (λ m. f (message_thing m)) e.messages + (total (λ j. f (JoinThing (a.0.name, j))) (filter is_open e.joins) + (total (λ x. f (ActorThing (x, 0))) e.actors + (total (λ x. f (CreationThing (a.0.name, x))) e.creations + total f ts))))
made_total f e a ts =
    let makes : List Thing = map (made_thing a.0.name) e.creations ++ ts in
    let news : List Thing = map new_thing e.actors ++ makes in
    let opens : List Thing = map (opened_thing a.0.name) (filter is_open e.joins) ++ news in
    omega (
      arith,
      total-append f (map message_thing e.messages) opens,
      total-append f (map (opened_thing a.0.name) (filter is_open e.joins)) news,
      total-append f (map new_thing e.actors) makes,
      total-append f (map (made_thing a.0.name) e.creations) ts,
      total-map f message_thing e.messages,
      total-map f (opened_thing a.0.name) (filter is_open e.joins),
      total-map f new_thing e.actors,
      total-map f (made_thing a.0.name) e.creations,
    )

pub given_total : (f : Thing → ℕ) (gs : List DueReply) (ts : List Thing) → total f (map ReplyThing gs ++ ts) ≡ total (λ g. f (ReplyThing g)) gs + total f ts
given_total f gs ts = omega (arith, total-append f (map ReplyThing gs) ts, total-map f ReplyThing gs)

-- ---- keys of what one actor made

module _ {X : Type 0} (me : Name) (from : ℕ) (num : X → ℕ) (words : X → TableKey) where
  abbrev Mine : X → Type 0
  Mine x = (words x ≡ made_key me (num x)) × (from ≤ num x)

  -- either none has the key, or it is one of the actor's new ones
  whose : (k : TableKey) (xs : List X) → EachOf Mine xs → (total (λ x. one_if_key k (Some (words x))) xs ≡ 0) ⊎ ((n : ℕ) × ((k ≡ made_key me n) × (from ≤ n)))
  whose k [] h = inl refl
  whose k (x ∷ xs) h = elim (words_tells k (words x)) [
    | inl e ↦ inr (num x, (e.1 ∙ h.0.0, h.0.1))
    | inr e ↦ elim (whose k xs h.1) [
      | inl z ↦ let no : one_if_key k (Some (words x)) ≡ 0 = ap (λ (b : Bool). if◌then◌else◌ {A = ℕ} b 1 0) e.0 in inl (omega (arith, no, z))
      | inr y ↦ inr y
    ]
  ]

  as_numbers : (n : ℕ) (xs : List X) → EachOf Mine xs → total (λ x. one_if_key (made_key me n) (Some (words x))) xs ≤ total (λ x. one_if_same n (num x)) xs
  as_numbers n [] h = omega arith
  as_numbers n (x ∷ xs) h = elim (words_tells (made_key me n) (words x)) [
    | inl e ↦
        let one : one_if_key (made_key me n) (Some (words x)) ≡ 1 = ap (λ (b : Bool). if◌then◌else◌ {A = ℕ} b 1 0) e.0 in
        let same : n ≡ num x = (same_made me me n (num x) (e.1 ∙ h.0.0)).1 in
        let number : one_if_same n (num x) ≡ 1 = ap (one_if_same n) (sym same) ∙ number_same n in
        omega (arith, one, number, as_numbers n xs h.1)
    | inr e ↦
        let no : one_if_key (made_key me n) (Some (words x)) ≡ 0 = ap (λ (b : Bool). if◌then◌else◌ {A = ℕ} b 1 0) e.0 in
        omega (arith, no, as_numbers n xs h.1)
  ]

  few_new : (k : TableKey) (xs : List X) (before : ℕ) → EachOf Mine xs → ((n : ℕ) → from ≤ n → k ≡ made_key me n → before ≡ 0) → before ≤ 1 → ((n : ℕ) → total (λ x. one_if_same n (num x)) xs ≤ 1)
      → total (λ x. one_if_key k (Some (words x))) xs + before ≤ 1
  few_new k xs before h none few once = elim (whose k xs h) [
    | inl z ↦ omega (arith, z, few)
    | inr y ↦
        let n : ℕ = y.0 in
        let zero = none n y.1.1 y.1.0 in
        let same : total (λ x. one_if_key k (Some (words x))) xs ≡ total (λ x. one_if_key (made_key me n) (Some (words x))) xs = ap (λ q. total (λ x. one_if_key q (Some (words x))) xs) y.1.0 in
        omega (arith, zero, same, as_numbers n xs h, once n)
  ]

-- ---- new actors

pub anonymous_own : (n : Name) → s.is_anonymous n ≡ true → anonymous_name n ≡ Some (name_key n)
anonymous_own (name.Anon theatre i) e = refl
anonymous_own (name.Uan u) e = absurd (true≢false (sym e))
anonymous_own (name.Outside i) e = absurd (true≢false (sym e))

neither : (a b : Bool) → (a || b) ≡ false → (a ≡ false) × (b ≡ false)
neither true b e = absurd (true≢false e)
neither false b e = (refl, e)

later_none : (p : TableKey → Bool) (o : Option TableKey) (zs : List TableKey) → list_any p (cons_option o zs) ≡ false → list_any p zs ≡ false
later_none p None zs e = e
later_none p (Some z) zs e = (neither (p z) (list_any p zs) e).1

not_given : (n : Name) (bound : List TableKey) (ts : List Thing) → s.is_anonymous n ≡ true → list_any (key_eq (name_key n)) (filter_map anonymous_in ts ++ bound) ≡ false → count_at_key actor_key_in (name_key n) ts ≡ 0
not_given n bound [] anon e = refl
not_given n bound (MessageThing m ∷ ts) anon e = omega (arith, not_given n bound ts anon e)
not_given n bound (JoinThing j ∷ ts) anon e = omega (arith, not_given n bound ts anon e)
not_given n bound (CreationThing x ∷ ts) anon e = omega (arith, not_given n bound ts anon e)
not_given n bound (ReplyThing g ∷ ts) anon e = omega (arith, not_given n bound ts anon e)
not_given n bound (ActorThing y ∷ ts) anon e = elim (words_tells (name_key n) (actor_key y)) [
  | inl w ↦
      let same : n ≡ y.0.name = same_names n y.0.name w.1 in
      let own : anonymous_name y.0.name ≡ Some (name_key n) = ap anonymous_name (sym same) ∙ anonymous_own n anon in
      let some : list_any (key_eq (name_key n)) (cons_option (Some (name_key n)) (filter_map anonymous_in ts) ++ bound) ≡ false = ap (λ o. list_any (key_eq (name_key n)) (cons_option o (filter_map anonymous_in ts) ++ bound)) (sym own) ∙ e in
      absurd (true≢false (sym (ap (λ b. b || list_any (key_eq (name_key n)) (filter_map anonymous_in ts ++ bound)) (words_refl (name_key n))) ∙ some))
  | inr w ↦
      let no : one_if_key (name_key n) (Some (actor_key y)) ≡ 0 = ap (λ (b : Bool). if◌then◌else◌ {A = ℕ} b 1 0) w.0 in
      omega (arith, no, not_given n bound ts anon (tail (anonymous_name y.0.name) e))
]
  where
    tail : (o : Option TableKey) → list_any (key_eq (name_key n)) (cons_option o (filter_map anonymous_in ts) ++ bound) ≡ false → list_any (key_eq (name_key n)) (filter_map anonymous_in ts ++ bound) ≡ false
    tail None e = e
    tail (Some z) e = (neither (key_eq (name_key n) z) (list_any (key_eq (name_key n)) (filter_map anonymous_in ts ++ bound)) e).1

-- a new name is that of no actor
pub new_apart : (n : Name) (bound : List TableKey) (ts : List Thing) → s.is_new (fs.from_list (filter_map anonymous_in ts ++ bound)) n ≡ true → count_at_key actor_key_in (name_key n) ts ≡ 0
new_apart n bound ts e =
    let p = split (s.is_anonymous n) (not (fs.contains (fs.from_list {R = key_cmp} (filter_map anonymous_in ts ++ bound)) (name_key n))) e in
    not_given n bound ts p.0 (sym (fs.contains-from_list nat_list_cmp_total (filter_map anonymous_in ts ++ bound) (name_key n)) ∙ flipped (fs.contains (fs.from_list {R = key_cmp} (filter_map anonymous_in ts ++ bound)) (name_key n)) p.1)

none_named : (n : Name) (k : TableKey) (xs : List Actor) → k ≡ name_key n → list_any (λ m. key_eq (name_key n) (name_key m)) (actor_names xs) ≡ false → total (λ x. one_if_key k (Some (name_key x.name))) xs ≡ 0
none_named n k [] same e = refl
none_named n k (x ∷ xs) same e =
    let p = neither (key_eq (name_key n) (name_key x.name)) (list_any (λ m. key_eq (name_key n) (name_key m)) (actor_names xs)) e in
    let no : one_if_key k (Some (name_key x.name)) ≡ 0 = ap (λ (q : TableKey). one_if_key q (Some (name_key x.name))) same ∙ ap (λ (b : Bool). if◌then◌else◌ {A = ℕ} b 1 0) p.0 in
    omega (arith, no, none_named n k xs same p.1)

new_few : (k : TableKey) (given : fs.FinSet key_cmp) (before : ℕ) → before ≤ 1 → ((n : Name) → s.is_new given n ≡ true → k ≡ name_key n → before ≡ 0) → (xs : List Actor) → list_all (s.is_new given) (actor_names xs) ≡ true → s.are_different (actor_names xs) ≡ true
    → total (λ x. one_if_key k (Some (name_key x.name))) xs + before ≤ 1
new_few k given before few none [] new differ = omega (arith, few)
new_few k given before few none (x ∷ xs) new differ =
    let p = split (s.is_new given x.name) (list_all (s.is_new given) (actor_names xs)) new in
    let d = split (not (list_any (λ m. key_eq (name_key x.name) (name_key m)) (actor_names xs))) (s.are_different (actor_names xs)) differ in
    elim (words_tells k (name_key x.name)) [
      | inl e ↦
          let zero = none x.name p.0 e.1 in
          let one : one_if_key k (Some (name_key x.name)) ≡ 1 = ap (λ (b : Bool). if◌then◌else◌ {A = ℕ} b 1 0) e.0 in
          let others = none_named x.name k xs e.1 (flipped (list_any (λ m. key_eq (name_key x.name) (name_key m)) (actor_names xs)) d.0) in
          omega (arith, zero, one, others)
      | inr e ↦
          let no : one_if_key k (Some (name_key x.name)) ≡ 0 = ap (λ (b : Bool). if◌then◌else◌ {A = ℕ} b 1 0) e.0 in
          omega (arith, no, new_few k given before few none xs p.1 d.1)
    ]

-- ---- replies

no_address : (r : Reply) → r ≢ Nobody → reply_key r ≢ []
no_address Nobody some e = some refl
no_address (Tok owner n) some e = absurd cc
no_address (Place owner join at) some e = absurd cc
no_address (Outside n) some e = absurd cc

new_late : (me : Name) (from to : ℕ) (r : Reply) → IsNewReply me from to r → IsLate me from r
new_late me from to Nobody h = absurd h
new_late me from to (Tok owner n) h = (h.0, h.1.0)
new_late me from to (Place owner join at) h = (h.0, h.1.0)
new_late me from to (Outside n) h = absurd h

module _ {X : Type 0} (me : Name) (caller : Reply) (from to : ℕ) (reply : X → Reply) (r : Reply) (some : r ≢ Nobody) (other : owes (reply_key r) caller ≡ 0) where
  -- either none owes to the reply_key, or it is a new one
  pub whose_new : (xs : List X) → EachOf (λ x. IsAllowedReply me caller from to (reply x)) xs → (total (λ x. owes (reply_key r) (reply x)) xs ≡ 0) ⊎ ((q : Reply) × (IsNewReply me from to q × (reply_key r ≡ reply_key q)))
  whose_new [] h = inl refl
  whose_new (x ∷ xs) h = at (bytes_eq (reply_key r) (reply_key (reply x))) refl (whose_new xs h.1)
    where
      at : (b : Bool) → bytes_eq (reply_key r) (reply_key (reply x)) ≡ b → (total (λ y. owes (reply_key r) (reply y)) xs ≡ 0) ⊎ ((q : Reply) × (IsNewReply me from to q × (reply_key r ≡ reply_key q)))
          → (owes (reply_key r) (reply x) + total (λ y. owes (reply_key r) (reply y)) xs ≡ 0) ⊎ ((q : Reply) × (IsNewReply me from to q × (reply_key r ≡ reply_key q)))
      at false e rest = elim rest [
        | inl z ↦ let no : owes (reply_key r) (reply x) ≡ 0 = ap (λ (b : Bool). if◌then◌else◌ {A = ℕ} b 1 0) e in inl (omega (arith, no, z))
        | inr y ↦ inr y
      ]
      at true e rest =
          let same : reply_key r ≡ reply_key (reply x) = (bytes_eq-Decides (reply_key r) (reply_key (reply x))).0 e in
          elim h.0 [
            | inl nobody ↦ absurd (no_address r some (same ∙ ap reply_key nobody))
            | inr more ↦ elim more [
              | inl called ↦
                  let one : owes (reply_key r) caller ≡ 1 = ap (λ (q : Reply). owes (reply_key r) q) (sym called) ∙ ap (λ (b : Bool). if◌then◌else◌ {A = ℕ} b 1 0) e in
                  absurd (omega (arith, one, other))
              | inr new ↦ inr (reply x, (new, same))
            ]
          ]

  -- which is late
  whose_reply : (xs : List X) → EachOf (λ x. IsAllowedReply me caller from to (reply x)) xs → (total (λ x. owes (reply_key r) (reply x)) xs ≡ 0) ⊎ ((q : Reply) × (IsLate me from q × (reply_key r ≡ reply_key q)))
  whose_reply xs h = elim (whose_new xs h) [
    | inl z ↦ inl z
    | inr y ↦ inr (y.0, (new_late me from to y.0 y.1.0, y.1.1))
  ]

-- a join is open, or gives its array
arrays_and_open : (w : TableKey) (js : List Join) → total (λ g. owes w g.0) (s.full_join_replies js) + total (λ j. owes w j.reply) (filter is_open js) ≡ total (λ j. owes w j.reply) js
arrays_and_open w [] = refl
arrays_and_open w (j ∷ js) = at (is_full j) (arrays_and_open w js)
  where
    at : (b : Bool) → total (λ g. owes w g.0) (s.full_join_replies js) + total (λ i. owes w i.reply) (filter is_open js) ≡ total (λ i. owes w i.reply) js
        → total (λ (g : DueReply). owes w g.0) (cond b ((j.reply, join_value j) ∷ []) [] ++ s.full_join_replies js) + total (λ i. owes w i.reply) (cond (not b) (j ∷ filter is_open js) (filter is_open js)) ≡ owes w j.reply + total (λ i. owes w i.reply) js
    at true e = omega (arith, e)
    at false e = omega (arith, e)

pub answered_total : (w : TableKey) (answer : Answer) (caller : Reply) → (total (λ g. owes w g.0) (s.answer_replies answer caller) + passes answer ≤ 1) × (total (λ g. owes w g.0) (s.answer_replies answer caller) ≤ owes w caller)
answered_total w (answer.Value v) caller = (at (bytes_eq w (reply_key caller)), omega arith)
  where
    at : (b : Bool) → (if◌then◌else◌ {A = ℕ} b 1 0 + 0) + 0 ≤ 1
    at true = omega arith
    at false = omega arith
answered_total w answer.Passed caller = (omega arith, omega arith)

-- ---- the law

module _ (e : Effects) (m : Message) (a : Actor × ℕ) (bound : List TableKey) (ts : List Thing) (sizes : List ℕ) (fresh : List Name) (order : IsOrderly sizes (s.call_of m a fresh) e)
    (names : s.are_fresh (actor_names e.actors) (fs.from_list (filter_map anonymous_in (MessageThing m ∷ ActorThing a ∷ ts) ++ bound)) ≡ true)
    (below : IsBelow a.0.name a.1 (MessageThing m ∷ ActorThing a ∷ ts)) (once : StandOnce (MessageThing m ∷ ActorThing a ∷ ts)) where
  abbrev me : Name
  me = a.0.name

  abbrev gs : List DueReply
  gs = s.step_replies e m.reply

  pub messages_high : EachOf (λ x. IsWithin a.1 e.serial x.serial) e.messages
  messages_high = each_more (λ x. 1 ≤ total (λ y. one_if_same x.serial y.serial) e.messages) (λ x. IsWithin a.1 e.serial x.serial) e.messages (λ x l. within sizes (s.call_of m a fresh) e order x.serial (omega (arith, l))) (one_at_least (λ x. x.serial) [] e.messages)

  pub joins_within : EachOf (λ j. IsWithin a.1 e.serial j.number) e.joins
  joins_within = each_more (λ j. 1 ≤ total (λ y. one_if_same j.number y.number) e.joins) (λ j. IsWithin a.1 e.serial j.number) e.joins (λ j l. within sizes (s.call_of m a fresh) e order j.number (omega (arith, l))) (one_at_least (λ j. j.number) [] e.joins)

  pub joins_high : EachOf (λ j. a.1 ≤ j.number) e.joins
  joins_high = each_more (λ j. IsWithin a.1 e.serial j.number) (λ j. a.1 ≤ j.number) e.joins (λ j h. h.0) joins_within

  pub creations_high : EachOf (λ x. a.1 ≤ x.serial) e.creations
  creations_high = each_more (λ x. 1 ≤ total (λ y. one_if_same x.serial y.serial) e.creations) (λ x. a.1 ≤ x.serial) e.creations (λ x l. (within sizes (s.call_of m a fresh) e order x.serial (omega (arith, l))).0) (one_at_least (λ x. x.serial) [] e.creations)

  pub creations_within : EachOf (λ x. IsWithin a.1 e.serial x.serial) e.creations
  creations_within = each_more (λ x. 1 ≤ total (λ y. one_if_same x.serial y.serial) e.creations) (λ x. IsWithin a.1 e.serial x.serial) e.creations (λ x l. within sizes (s.call_of m a fresh) e order x.serial (omega (arith, l))) (one_at_least (λ x. x.serial) [] e.creations)

  messages_mine : EachOf (λ x. (message_key x ≡ made_key a.0.name x.serial) × (a.1 ≤ x.serial)) e.messages
  messages_mine = each_more (λ x. IsGoodMessage me m.reply a.1 e.serial sizes x × IsWithin a.1 e.serial x.serial) (λ x. (message_key x ≡ made_key a.0.name x.serial) × (a.1 ≤ x.serial)) e.messages
      (λ x h. (ap (λ n. made_key n x.serial) h.0.maker, h.1.0)) (each_both (IsGoodMessage me m.reply a.1 e.serial sizes) (λ x. IsWithin a.1 e.serial x.serial) e.messages order.messages messages_high)

  joins_mine : EachOf (λ j. (made_key a.0.name j.number ≡ made_key a.0.name j.number) × (a.1 ≤ j.number)) e.joins
  joins_mine = each_more (λ j. a.1 ≤ j.number) (λ j. (made_key a.0.name j.number ≡ made_key a.0.name j.number) × (a.1 ≤ j.number)) e.joins (λ j h. (refl, h)) joins_high

  creations_mine : EachOf (λ x. (made_key a.0.name x.serial ≡ made_key a.0.name x.serial) × (a.1 ≤ x.serial)) e.creations
  creations_mine = each_more (λ x. a.1 ≤ x.serial) (λ x. (made_key a.0.name x.serial ≡ made_key a.0.name x.serial) × (a.1 ≤ x.serial)) e.creations (λ x h. (refl, h)) creations_high

  pub all_total : (f : Thing → ℕ) → total f (map ReplyThing (s.step_replies e m.reply) ++ made_things e a ts)
      ≡ total (λ g. f (ReplyThing g)) (s.step_replies e m.reply)
      + (f (ActorThing (actor_after e a)) + (total (λ x. f (message_thing x)) e.messages + (total (λ j. f (JoinThing (a.0.name, j))) (filter is_open e.joins) + (total (λ x. f (ActorThing (x, 0))) e.actors + (total (λ x. f (CreationThing (a.0.name, x))) e.creations + total f ts)))))
  all_total f = given_total f (s.step_replies e m.reply) (made_things e a ts) ∙ ap (λ n. total (λ g. f (ReplyThing g)) (s.step_replies e m.reply) + n) (made_total f e a ts)

  few_actors : (k : TableKey) → count_at_key actor_key_in k (map ReplyThing (s.step_replies e m.reply) ++ made_things e a ts) ≤ 1
  few_actors k =
      let given : fs.FinSet key_cmp = fs.from_list (filter_map anonymous_in (MessageThing m ∷ ActorThing a ∷ ts) ++ bound) in
      let p = split (list_all (s.is_new given) (actor_names e.actors)) (s.are_different (actor_names e.actors)) names in
      let few = new_few k given (count_at_key actor_key_in k (MessageThing m ∷ ActorThing a ∷ ts)) (once.actors k) (λ n new same. ap (λ q. count_at_key actor_key_in q (MessageThing m ∷ ActorThing a ∷ ts)) same ∙ new_apart n bound (MessageThing m ∷ ActorThing a ∷ ts) new) e.actors p.0 p.1 in
      omega (arith, few, all_total (λ t. one_if_key k (actor_key_in t)), total_zero (s.step_replies e m.reply), total_zero e.messages, total_zero (filter is_open e.joins), total_zero e.creations)

  few_messages : (k : TableKey) → count_at_key message_key_in k (map ReplyThing (s.step_replies e m.reply) ++ made_things e a ts) ≤ 1
  few_messages k =
      let u = once.messages k in
      let few = few_new me a.1 (λ x. x.serial) (λ x. message_key x) k e.messages (count_at_key message_key_in k ts) messages_mine
      (λ n high same. let z : count_at_key message_key_in k (MessageThing m ∷ ActorThing a ∷ ts) ≡ 0 = ap (λ q. count_at_key message_key_in q (MessageThing m ∷ ActorThing a ∷ ts)) same ∙ below.messages n high in omega (arith, z))
      (omega (arith, u)) (λ n. let o = order.once n in omega (arith, o)) in
      omega (arith, few, all_total (λ t. one_if_key k (message_key_in t)), total_zero (s.step_replies e m.reply), total_zero e.actors, total_zero (filter is_open e.joins), total_zero e.creations)

  few_joins : (k : TableKey) → count_at_key join_key_in k (map ReplyThing (s.step_replies e m.reply) ++ made_things e a ts) ≤ 1
  few_joins k =
      let u = once.joins k in
      let few = few_new me a.1 (λ j. j.number) (λ j. made_key a.0.name j.number) k e.joins (count_at_key join_key_in k ts) joins_mine
      (λ n high same. let z : count_at_key join_key_in k (MessageThing m ∷ ActorThing a ∷ ts) ≡ 0 = ap (λ q. count_at_key join_key_in q (MessageThing m ∷ ActorThing a ∷ ts)) same ∙ below.joins n high in omega (arith, z))
      (omega (arith, u)) (λ n. let o = order.once n in omega (arith, o)) in
      let part = total_parted (λ (j : Join). one_if_key k (Some (made_key a.0.name j.number))) is_open e.joins in
      omega (arith, few, part, all_total (λ t. one_if_key k (join_key_in t)), total_zero (s.step_replies e m.reply), total_zero e.actors, total_zero e.messages, total_zero e.creations)

  few_creations : (k : TableKey) → count_at_key creation_key_in k (map ReplyThing (s.step_replies e m.reply) ++ made_things e a ts) ≤ 1
  few_creations k =
      let u = once.creations k in
      let few = few_new me a.1 (λ x. x.serial) (λ x. made_key a.0.name x.serial) k e.creations (count_at_key creation_key_in k ts) creations_mine
      (λ n high same. let z : count_at_key creation_key_in k (MessageThing m ∷ ActorThing a ∷ ts) ≡ 0 = ap (λ q. count_at_key creation_key_in q (MessageThing m ∷ ActorThing a ∷ ts)) same ∙ below.creations n high in omega (arith, z))
      (omega (arith, u)) (λ n. let o = order.once n in omega (arith, o)) in
      omega (arith, few, all_total (λ t. one_if_key k (creation_key_in t)), total_zero (s.step_replies e m.reply), total_zero e.actors, total_zero e.messages, total_zero (filter is_open e.joins))

  -- what is times_owed_by then: by the answer, by what was made, and by all that was there
  pub owed_then : (r : Reply) → total (count_owed (reply_key r)) (map ReplyThing (s.step_replies e m.reply) ++ made_things e a ts)
      ≡ total (λ g. owes (reply_key r) g.0) (s.answer_replies e.answer m.reply) + (times_owed_by (reply_key r) e.messages e.joins + total (count_owed (reply_key r)) ts)
  owed_then r =
      let w : TableKey = reply_key r in
      let parts : total (λ (g : DueReply). owes w g.0) (s.step_replies e m.reply) ≡ total (λ g. owes w g.0) (s.full_join_replies e.joins) + total (λ g. owes w g.0) (s.answer_replies e.answer m.reply) = total-append (λ (g : DueReply). owes w g.0) (s.full_join_replies e.joins) (s.answer_replies e.answer m.reply) in
      omega (arith, parts, arrays_and_open w e.joins, all_total (count_owed w), total_zero e.actors, total_zero e.creations)

  few_replies : (r : Reply) → r ≢ Nobody → total (count_owed (reply_key r)) (map ReplyThing (s.step_replies e m.reply) ++ made_things e a ts) ≤ 1
  few_replies r some = at (bytes_eq (reply_key r) (reply_key m.reply)) refl
    where
      at : (b : Bool) → bytes_eq (reply_key r) (reply_key m.reply) ≡ b → total (count_owed (reply_key r)) (map ReplyThing (s.step_replies e m.reply) ++ made_things e a ts) ≤ 1
      at true is =
          let same : reply_key r ≡ reply_key m.reply = (bytes_eq-Decides (reply_key r) (reply_key m.reply)).0 is in
          let one : owes (reply_key r) m.reply ≡ 1 = ap (λ (b : Bool). if◌then◌else◌ {A = ℕ} b 1 0) is in
          let mine = order.passed (λ nobody. no_address r some (same ∙ ap reply_key nobody)) in
          let passed : times_owed_by (reply_key r) e.messages e.joins ≡ times_owed_by (reply_key m.reply) e.messages e.joins = ap (λ w. times_owed_by w e.messages e.joins) same in
          let u = once.replies r some in
          let answer = (answered_total (reply_key r) e.answer m.reply).0 in
          omega (arith, owed_then r, one, mine, passed, u, answer)
      at false is =
          let no : owes (reply_key r) m.reply ≡ 0 = ap (λ (b : Bool). if◌then◌else◌ {A = ℕ} b 1 0) is in
          let u = once.replies r some in
          let answer = (answered_total (reply_key r) e.answer m.reply).1 in
          let made = order.owed_once r some in
          let late : (q : Reply) → IsLate me a.1 q → reply_key r ≡ reply_key q → total (count_owed (reply_key r)) ts ≡ 0 = λ q l same.
          (let z : total (count_owed (reply_key r)) (MessageThing m ∷ ActorThing a ∷ ts) ≡ 0 = ap (λ w. total (count_owed w) (MessageThing m ∷ ActorThing a ∷ ts)) same ∙ below.replies q l in omega (arith, z)) in
          let replies : EachOf (λ (x : Message). IsAllowedReply me m.reply a.1 e.serial x.reply) e.messages = each_more (IsGoodMessage me m.reply a.1 e.serial sizes) (λ x. IsAllowedReply me m.reply a.1 e.serial x.reply) e.messages (λ x g. g.reply) order.messages in
          elim (whose_reply me m.reply a.1 e.serial (λ (x : Message). x.reply) r some no e.messages replies) [
            | inl x ↦ elim (whose_reply me m.reply a.1 e.serial (λ (j : Join). j.reply) r some no e.joins order.joins) [
              | inl y ↦ omega (arith, owed_then r, no, u, answer, x, y)
              | inr y ↦ let z = late y.0 y.1.0 y.1.1 in omega (arith, owed_then r, no, answer, made, z)
            ]
            | inr x ↦ let z = late x.0 x.1.0 x.1.1 in omega (arith, owed_then r, no, answer, made, z)
          ]

  pub made_once : StandOnce (map ReplyThing (s.step_replies e m.reply) ++ made_things e a ts)
  made_once = record { actors = few_actors; messages = few_messages; joins = few_joins; creations = few_creations; replies = few_replies }
