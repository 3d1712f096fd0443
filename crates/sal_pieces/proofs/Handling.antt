-- A handler's turn is a step of the image.
use Rattle.std.proofs.Common.{◌≡◌, ◌≢◌, inl, inr, ℕ, ◌+◌, ◌≤◌, Bool, true, false, not, cond, ◌&&◌, List, [], ◌∷◌, ◌++◌, map, filter, length, Option, Some, None, refl, sym, ap, subst, ◌∙◌, arith, append-nil, append_assoc}
use Rattle.std.specs.Prelude.{if◌then◌else◌, filter_map, flat_map, nat_lt}
use Rattle.std.specs.List.{cons_option, list_all}
use Rattle.std.proofs.lemmas.Bool.{eq-eqb}
use Rattle.std.specs.FinMap as fm
use Rattle.std.specs.FinSet as fs
use Rattle.sal_value.specs.declared.name.Name.{Name}
use Rattle.sal_value.specs.Spelling.{is_legal}
use Rattle.sal_mail.specs.declared.message.Target.TheVariants as target
use Rattle.sal_mail.specs.declared.message.Message.{Message}
use Rattle.sal_mail.specs.declared.message.Join.{Join}
use Rattle.sal_mail.specs.declared.effects.Actor.{Actor}
use Rattle.sal_mail.specs.declared.effects.Creation.{Creation}
use Rattle.sal_mail.specs.declared.effects.Effects.{Effects}
use Rattle.sal_mail.specs.ReplyKeys.{reply_key}
use Rattle.sal_mail.specs.Message.{is_full, is_ready, join_value, without_delay}
use Rattle.sal_handler.specs.Calls.{Call}
use Rattle.sal_handler.specs.WellFormed.{EachOf, IsOrderly}
use Rattle.sal_handler.specs.declared.turn.Outcome.{Outcome}
use Rattle.sal_handler.specs.declared.turn.Outcome.TheVariants as outcome
use Rattle.sal_source.specs.Table.{TableKey, key_cmp, key_eq, Table, write, table_of, total, HasSameItems}
use Rattle.sal_source.specs.Keys.{name_key, made_key, message_key, join_key, creation_key, actor_key}
use Rattle.sal_source.specs.Configuration.{Waiting, Configuration}
use Rattle.sal_source.specs.Give.{DueReply, settle_all, settle_all_answers, give_one, replies_if_legal, answers_if_legal, give_all}
use Rattle.sal_source.specs.Step as s
use Rattle.sal_source.proofs.Same.{total-append, total-map}
use Rattle.sal_source.proofs.Tables.{words_tells, same_table, get-write}
use Rattle.sal_source.proofs.Commute.{get-write_other}
use Rattle.sal_source.proofs.Fuel.{tell_first, tell_both}
use Rattle.sal_book.specs.Book.{Book, is_open, is_waiting, join_reply, full_replies, is_legal_reply, book_after_entry, released_by_entry}
use Rattle.sal_pieces.specs.Pieces.{Piece, Body, OwedReply, WaitingCreation, Put, Thing, ActorThing, MessageThing, JoinThing, CreationThing, ReplyThing, message_thing, loose_call, decides, piece_things, things}
use Rattle.sal_pieces.specs.Image.{History, actor_in, message_in, join_in, creation_in, reply_in, anonymous_in, anonymous_name, waiting_before_replies, waiting_after_replies, image_of}
use Rattle.sal_pieces.specs.Once.{one_if_key, actor_key_in, message_key_in, join_key_in, creation_key_in, count_owed, StandOnce}
use Rattle.sal_pieces.specs.Steps.{with_opened, actor_names, open_joins_of, legal_step_replies, handler_pieces, Continues, answers_of_replies, open_joins_in, IsBelow, NoneIsDecided, actor_after, new_actor_piece, creation_pieces, pieces_after, HandlersAreSteps}
use Rattle.sal_pieces.proofs.Order.{total_ext, total_flat, same_set, same_made}
use Rattle.sal_pieces.proofs.Entering.{like_rest, once_same, total_parted}
use Rattle.sal_pieces.proofs.Placing.{legal_only}
use Rattle.sal_pieces.proofs.Binding.{any_front}
use Rattle.sal_pieces.proofs.Stepping.{total_zero, met, ready_beside, the_replies, past_replies, given_made, beside_actor, call_and_body}
use Rattle.sal_pieces.proofs.Making.{both_put, put_beside}
use Rattle.sal_source.proofs.Keeping.{split}
use Rattle.sal_pieces.proofs.Standing.{anonymous_own, opened_thing, new_thing, made_thing, made_things, made_total, given_total, made_once, joins_high, creations_high}

-- ---- things of one kind among what was made

module _ {X : Type 0} (h : Thing → Option X) {Y : Type 0} (f : Y → Thing) where
  pub past : ((y : Y) → h (f y) ≡ None) → (ys : List Y) (ts : List Thing) → filter_map h (map f ys ++ ts) ≡ filter_map h ts
  past none [] ts = refl
  past none (y ∷ ys) ts = ap (λ (o : Option X). cons_option o (filter_map h (map f ys ++ ts))) (none y) ∙ past none ys ts

  pub each : (g : Y → X) → ((y : Y) → h (f y) ≡ Some (g y)) → (ys : List Y) (ts : List Thing) → filter_map h (map f ys ++ ts) ≡ map g ys ++ filter_map h ts
  each g some [] ts = refl
  each g some (y ∷ ys) ts = (λ i. cons_option (some y i) (each g some ys ts i))

module _ (e : Effects) (a : Actor × ℕ) (ts : List Thing) where
  abbrev me : Name
  me = a.0.name

  abbrev open_ones : List Join
  open_ones = filter is_open e.joins

  abbrev makes : List Thing
  makes = map (made_thing a.0.name) e.creations ++ ts

  abbrev news : List Thing
  news = map new_thing e.actors ++ (map (made_thing a.0.name) e.creations ++ ts)

  abbrev opens : List Thing
  opens = map (opened_thing a.0.name) (filter is_open e.joins) ++ (map new_thing e.actors ++ (map (made_thing a.0.name) e.creations ++ ts))

  made_messages : filter_map message_in (made_things e a ts) ≡ map without_delay e.messages ++ filter_map message_in ts
  made_messages =
      each message_in message_thing without_delay (λ x. refl) e.messages opens
      ∙ ap (λ zs. map without_delay e.messages ++ zs)
      (past message_in (opened_thing a.0.name) (λ x. refl) open_ones news ∙ past message_in new_thing (λ x. refl) e.actors makes ∙ past message_in (made_thing a.0.name) (λ x. refl) e.creations ts)

  made_joins : filter_map join_in (made_things e a ts) ≡ map (λ j. (a.0.name, j)) (filter is_open e.joins) ++ filter_map join_in ts
  made_joins =
      past join_in message_thing (λ x. refl) e.messages opens ∙ each join_in (opened_thing a.0.name) (λ j. (a.0.name, j)) (λ x. refl) open_ones news
      ∙ ap (λ zs. map (λ j. (a.0.name, j)) (filter is_open e.joins) ++ zs) (past join_in new_thing (λ x. refl) e.actors makes ∙ past join_in (made_thing a.0.name) (λ x. refl) e.creations ts)

  made_actors : filter_map actor_in (made_things e a ts) ≡ actor_after e a ∷ (map (λ x. (x, 0)) e.actors ++ filter_map actor_in ts)
  made_actors = ap (λ zs. actor_after e a ∷ zs) (
      past actor_in message_thing (λ x. refl) e.messages opens ∙ past actor_in (opened_thing a.0.name) (λ x. refl) open_ones news ∙ each actor_in new_thing (λ x. (x, 0)) (λ x. refl) e.actors makes
      ∙ ap (λ zs. map (λ x. (x, 0)) e.actors ++ zs) (past actor_in (made_thing a.0.name) (λ x. refl) e.creations ts))

  made_creations : filter_map creation_in (made_things e a ts) ≡ map (λ x. (a.0.name, x)) e.creations ++ filter_map creation_in ts
  made_creations =
      past creation_in message_thing (λ x. refl) e.messages opens ∙ past creation_in (opened_thing a.0.name) (λ x. refl) open_ones news ∙ past creation_in new_thing (λ x. refl) e.actors makes
      ∙ each creation_in (made_thing a.0.name) (λ x. (a.0.name, x)) (λ x. refl) e.creations ts

  made_replies : filter_map reply_in (made_things e a ts) ≡ filter_map reply_in ts
  made_replies =
      past reply_in message_thing (λ x. refl) e.messages opens ∙ past reply_in (opened_thing a.0.name) (λ x. refl) open_ones news ∙ past reply_in new_thing (λ x. refl) e.actors makes
      ∙ past reply_in (made_thing a.0.name) (λ x. refl) e.creations ts

-- ---- tables

put_messages_is : (ms : List Message) (xs : List Message) → table_of message_key (map without_delay ms ++ xs) ≡ s.put_messages ms (table_of message_key xs)
put_messages_is [] xs = refl
put_messages_is (m ∷ ms) xs = ap (λ t. write t (message_key m) (Some (without_delay m))) (put_messages_is ms xs)

put_joins_is : (o : Name) (js : List Join) (xs : List (Name × Join)) → table_of join_key (map (λ j. (o, j)) (filter is_open js) ++ xs) ≡ s.put_joins o js (table_of join_key xs)
put_joins_is o [] xs = refl
put_joins_is o (j ∷ js) xs = at (is_full j) (put_joins_is o js xs)
  where
    at : (b : Bool) → table_of join_key (map (λ i. (o, i)) (filter is_open js) ++ xs) ≡ s.put_joins o js (table_of join_key xs)
        → table_of join_key (map (λ i. (o, i)) (cond (not b) (j ∷ filter is_open js) (filter is_open js)) ++ xs) ≡ (if b then s.put_joins o js (table_of join_key xs) else s.put_join o j (s.put_joins o js (table_of join_key xs)))
    at true e = e
    at false e = ap (λ t. write t (made_key o j.number) (Some (o, j))) e

opened_is : (o : Name) (js : List Join) (t : Table (Name × Join)) → with_opened (open_joins_of o js) t ≡ s.put_joins o js t
opened_is o [] t = refl
opened_is o (j ∷ js) t = at (is_full j) (opened_is o js t)
  where
    at : (b : Bool) → with_opened (map (λ i. (o, i)) (filter is_open js)) t ≡ s.put_joins o js t
        → with_opened (map (λ i. (o, i)) (cond (not b) (j ∷ filter is_open js) (filter is_open js))) t ≡ (if b then s.put_joins o js t else s.put_join o j (s.put_joins o js t))
    at true e = e
    at false e = ap (λ u. write u (made_key o j.number) (Some (o, j))) e

put_creations_is : (o : Name) (cs : List Creation) (xs : List (Name × Creation)) → table_of creation_key (map (λ x. (o, x)) cs ++ xs) ≡ s.put_creations o cs (table_of creation_key xs)
put_creations_is o [] xs = refl
put_creations_is o (c ∷ cs) xs = ap (λ t. write t (made_key o c.serial) (Some (o, c))) (put_creations_is o cs xs)

put_actors_is : (as_ : List Actor) (xs : List (Actor × ℕ)) → table_of actor_key (map (λ x. (x, 0)) as_ ++ xs) ≡ s.put_actors as_ (table_of actor_key xs)
put_actors_is [] xs = refl
put_actors_is (a ∷ as_) xs = ap (λ t. write t (name_key a.name) (Some (a, 0))) (put_actors_is as_ xs)

give_names_is : (as_ : List Actor) (ks : List TableKey) → s.give_names as_ (fs.from_list {R = key_cmp} ks) ≡ fs.from_list (map (λ x. name_key x.name) as_ ++ ks)
give_names_is [] ks = refl
give_names_is (a ∷ as_) ks = ap (λ t. fs.insert t (name_key a.name)) (give_names_is as_ ks) ∙ any_front (name_key a.name) (map (λ x. name_key x.name) as_ ++ ks)

-- what the actor was before doesn't matter
put_other : (as_ : List Actor) (t : Table (Actor × ℕ)) (k q : TableKey) (x : Option (Actor × ℕ)) → q ≢ k → fm.get (s.put_actors as_ (write t k x)) q ≡ fm.get (s.put_actors as_ t) q
put_other [] t k q x n = get-write_other t k q x n
put_other (a ∷ as_) t k q x n =
    get-write (s.put_actors as_ (write t k x)) (name_key a.name) (Some (a, 0)) q
    ∙ ap (cond (key_eq q (name_key a.name)) (Some (a, 0))) (put_other as_ t k q x n)
    ∙ sym (get-write (s.put_actors as_ t) (name_key a.name) (Some (a, 0)) q)

put_over : (as_ : List Actor) (t : Table (Actor × ℕ)) (k : TableKey) (x y : Option (Actor × ℕ)) → write (s.put_actors as_ (write t k x)) k y ≡ write (s.put_actors as_ t) k y
put_over as_ t k x y = same_table _ _ (λ q. get-write (s.put_actors as_ (write t k x)) k y q ∙ at q ∙ sym (get-write (s.put_actors as_ t) k y q))
  where
    at : (q : TableKey) → cond (key_eq q k) y (fm.get (s.put_actors as_ (write t k x)) q) ≡ cond (key_eq q k) y (fm.get (s.put_actors as_ t) q)
    at q = elim (words_tells q k) [
      | inl w ↦ ap (λ (b : Bool). cond b y (fm.get (s.put_actors as_ (write t k x)) q)) w.0 ∙ sym (ap (λ (b : Bool). cond b y (fm.get (s.put_actors as_ t) q)) w.0)
      | inr w ↦ ap (cond (key_eq q k) y) (put_other as_ t k q x w.1)
    ]

-- ---- names

names_anonymous : (p : Name → Bool) (as_ : List Actor) (ts : List Thing) → ((n : Name) → p n ≡ true → anonymous_name n ≡ Some (name_key n)) → list_all p (actor_names as_) ≡ true
    → filter_map anonymous_in (map new_thing as_ ++ ts) ≡ map (λ x. name_key x.name) as_ ++ filter_map anonymous_in ts
names_anonymous p [] ts some h = refl
names_anonymous p (a ∷ as_) ts some h =
    let q = split (p a.name) (list_all p (actor_names as_)) h in
    λ i. cons_option (some a.name q.0 i) (names_anonymous p as_ ts some q.1 i)

made_names : (e : Effects) (a : Actor × ℕ) (ts : List Thing) (given : fs.FinSet key_cmp) → list_all (s.is_new given) (actor_names e.actors) ≡ true
    → filter_map anonymous_in (made_things e a ts) ≡ cons_option (anonymous_name a.0.name) (map (λ x. name_key x.name) e.actors ++ filter_map anonymous_in ts)
made_names e a ts given new =
    let some : (n : Name) → s.is_new given n ≡ true → anonymous_name n ≡ Some (name_key n) = λ n h. anonymous_own n (split (s.is_anonymous n) (not (fs.contains given (name_key n))) h).0 in
    ap (cons_option (anonymous_name a.0.name)) (
    past anonymous_in message_thing (λ x. refl) e.messages (opens e a ts) ∙ past anonymous_in (opened_thing a.0.name) (λ x. refl) (filter is_open e.joins) (news e a ts)
    ∙ names_anonymous (s.is_new given) e.actors (makes e a ts) some new
    ∙ ap (λ zs. map (λ x. name_key x.name) e.actors ++ zs) (past anonymous_in (made_thing a.0.name) (λ x. refl) e.creations ts))

given_now : (as_ : List Actor) (o : Option TableKey) (ks bound : List TableKey)
    → s.give_names as_ (fs.from_list {R = key_cmp} (cons_option o ks ++ bound)) ≡ fs.from_list (cons_option o (map (λ x. name_key x.name) as_ ++ ks) ++ bound)
given_now as_ o ks bound =
    let ns : List TableKey = map (λ x. name_key x.name) as_ in
    give_names_is as_ (cons_option o ks ++ bound)
    ∙ same_set (ns ++ (cons_option o ks ++ bound)) (cons_option o (ns ++ ks) ++ bound) (record { weighs = λ f. at o f })
  where
    at : (o : Option TableKey) (f : TableKey → ℕ) → total f (map (λ x. name_key x.name) as_ ++ (cons_option o ks ++ bound)) ≡ total f (cons_option o (map (λ x. name_key x.name) as_ ++ ks) ++ bound)
    at None f = omega (arith, total-append f (map (λ x. name_key x.name) as_) (ks ++ bound), total-append f ks bound, total-append f (map (λ x. name_key x.name) as_ ++ ks) bound, total-append f (map (λ x. name_key x.name) as_) ks)
    at (Some k) f = omega (arith, total-append f (map (λ x. name_key x.name) as_) (k ∷ ks ++ bound), total-append f ks bound, total-append f (map (λ x. name_key x.name) as_ ++ ks) bound, total-append f (map (λ x. name_key x.name) as_) ks)

-- ---- only legal arrays

legal_told : (gs rs : List DueReply) (c : Waiting) → settle_all_answers (gs ++ rs) c ≡ settle_all_answers (filter is_legal_reply gs ++ rs) c
legal_told [] rs c = refl
legal_told (g ∷ gs) rs c = at (is_legal g.1) refl (λ d. legal_told gs rs d)
  where
    at : (b : Bool) → is_legal g.1 ≡ b → ((d : Waiting) → settle_all_answers (gs ++ rs) d ≡ settle_all_answers (filter is_legal_reply gs ++ rs) d)
        → settle_all_answers (g ∷ gs ++ rs) c ≡ settle_all_answers (cond b (g ∷ filter is_legal_reply gs) (filter is_legal_reply gs) ++ rs) c
    at true e rest = tell_both (g ∷ []) (gs ++ rs) c ∙ ap (λ zs. settle_all_answers (g ∷ []) c ++ zs) (rest (settle_all (g ∷ []) c)) ∙ sym (tell_both (g ∷ []) (filter is_legal_reply gs ++ rs) c)
    at false e rest =
        let none : replies_if_legal g c ≡ [] = ap (λ (b : Bool). cond b (Rattle.sal_source.specs.Give.replies_from g.0 g.1 c) []) e in
        let same : give_one g c ≡ c = ap (λ (b : Bool). cond b (Rattle.sal_source.specs.Give.give_to g.0 g.1 c) c) e in
        let silent : answers_if_legal g ≡ [] = ap (λ (b : Bool). cond b (Rattle.sal_source.specs.Give.outside_answers g.0 g.1) []) e in
        tell_first g (gs ++ rs) c ∙ (λ k. silent k ++ settle_all_answers (none k ++ (gs ++ rs)) (same k)) ∙ rest c

arrays_same : (js : List Join) → s.full_join_replies js ≡ map join_reply (filter is_full js)
arrays_same [] = refl
arrays_same (j ∷ js) = at (is_full j) (arrays_same js)
  where
    at : (b : Bool) → s.full_join_replies js ≡ map join_reply (filter is_full js) → cond b ((j.reply, join_value j) ∷ []) [] ++ s.full_join_replies js ≡ map join_reply (cond b (j ∷ filter is_full js) (filter is_full js))
    at true e = ap (λ zs. (j.reply, join_value j) ∷ zs) e
    at false e = e

alike : {X : Type 0} (h : Thing → Option X) → ((g : DueReply) → h (ReplyThing g) ≡ None) → (hs ks : List DueReply) (us : List Thing) → filter_map h (map ReplyThing hs ++ us) ≡ filter_map h (map ReplyThing ks ++ us)
alike h none hs ks us = past_replies h none hs us ∙ sym (past_replies h none ks us)

legal_made : (gs rs : List DueReply) (us : List Thing) (bound : List TableKey) (v : History) → image_of bound (map ReplyThing (gs ++ rs) ++ us) v ≡ image_of bound (map ReplyThing (filter is_legal_reply gs ++ rs) ++ us) v
unfolding image_of waiting_before_replies
legal_made gs rs us bound v =
    let hs : List DueReply = gs ++ rs in
    let ks : List DueReply = filter is_legal_reply gs ++ rs in
    let reps : List DueReply = filter_map reply_in us in
    let w : waiting_before_replies (map ReplyThing hs ++ us) ≡ waiting_before_replies (map ReplyThing ks ++ us) = λ i. record { messages = table_of message_key (alike message_in (λ g. refl) hs ks us i); joins = table_of join_key (alike join_in (λ g. refl) hs ks us i) } in
    let c : Waiting = waiting_before_replies (map ReplyThing ks ++ us) in
    let waiting : waiting_after_replies (map ReplyThing hs ++ us) ≡ waiting_after_replies (map ReplyThing ks ++ us) =
    (λ i. settle_all (the_replies hs us i) (w i)) ∙ ap (λ zs. settle_all zs c) (append_assoc gs rs reps) ∙ legal_only gs (rs ++ reps) c
    ∙ ap (λ zs. settle_all zs c) (sym (append_assoc (filter is_legal_reply gs) rs reps)) ∙ ap (λ zs. settle_all zs c) (sym (the_replies ks us)) in
    λ i. record {
      actors = table_of actor_key (alike actor_in (λ g. refl) hs ks us i);
      given = fs.from_list (alike anonymous_in (λ g. refl) hs ks us i ++ bound);
      creations = table_of creation_key (alike creation_in (λ g. refl) hs ks us i);
      waiting = waiting i;
      output = v.output;
      faults = v.faults;
      answers = v.answers;
      posted = v.posted;
    }

legal_once : (gs rs : List DueReply) (us : List Thing) → StandOnce (map ReplyThing (gs ++ rs) ++ us) → StandOnce (map ReplyThing (filter is_legal_reply gs ++ rs) ++ us)
legal_once gs rs us h = record {
  actors = λ k. (let e = fewer (λ t. one_if_key k (actor_key_in t)) in let u = h.actors k in omega arith);
  messages = λ k. (let e = fewer (λ t. one_if_key k (message_key_in t)) in let u = h.messages k in omega arith);
  joins = λ k. (let e = fewer (λ t. one_if_key k (join_key_in t)) in let u = h.joins k in omega arith);
  creations = λ k. (let e = fewer (λ t. one_if_key k (creation_key_in t)) in let u = h.creations k in omega arith);
  replies = λ r some. (let e = fewer (count_owed (reply_key r)) in let u = h.replies r some in omega arith);
}
  where
    fewer : (f : Thing → ℕ) → total f (map ReplyThing (filter is_legal_reply gs ++ rs) ++ us) ≤ total f (map ReplyThing (gs ++ rs) ++ us)
    fewer f =
        let F : DueReply → ℕ = λ (g : DueReply). f (ReplyThing g) in
        omega (
          arith,
          given_total f (filter is_legal_reply gs ++ rs) us,
          given_total f (gs ++ rs) us,
          total-append F (filter is_legal_reply gs) rs,
          total-append F gs rs,
          total_parted F is_legal_reply gs,
        )

-- ---- the step on things

names_length : (as_ : List Actor) → length (actor_names as_) ≡ length as_
names_length [] = refl
names_length (a ∷ as_) = omega (arith, names_length as_)

module _ (e : Effects) (m : Message) (a : Actor × ℕ) (bound : List TableKey) (ts : List Thing) (sizes : List ℕ) (order : IsOrderly sizes (s.call_of m a (actor_names e.actors)) e)
    (names : s.are_fresh (actor_names e.actors) (fs.from_list (filter_map anonymous_in (MessageThing m ∷ ActorThing a ∷ ts) ++ bound)) ≡ true)
    (below : IsBelow a.0.name a.1 (MessageThing m ∷ ActorThing a ∷ ts)) (once : StandOnce (MessageThing m ∷ ActorThing a ∷ ts)) where
  given_before : fs.FinSet key_cmp
  given_before = fs.from_list (filter_map anonymous_in (MessageThing m ∷ ActorThing a ∷ ts) ++ bound)

  high : EachOf (λ j. a.1 ≤ j.number) e.joins
  high = joins_high e m a bound ts sizes (actor_names e.actors) order names below once

  waits_now : waiting_after_replies (made_things e a ts) ≡ both_put a.0.name a.1 e.serial e.messages e.joins (waiting_after_replies ts)
  unfolding waiting_before_replies
  waits_now =
      let rs : List DueReply = filter_map reply_in ts in
      let all : waiting_before_replies (made_things e a ts) ≡ both_put a.0.name a.1 e.serial e.messages e.joins (waiting_before_replies ts) = (λ i. record {
        messages = (ap (table_of message_key) (made_messages e a ts) ∙ put_messages_is e.messages (filter_map message_in ts)) i;
        joins = (ap (table_of join_key) (made_joins e a ts) ∙ put_joins_is a.0.name e.joins (filter_map join_in ts)) i;
      }) in
      (λ i. settle_all (made_replies e a ts i) (all i))
      ∙ put_beside a.0.name a.1 e.serial m.reply sizes e.messages e.joins ts order.messages high (λ r l. let z = below.replies r l in omega (arith, z))

  installed_made : (w : History) → s.with_effects e a.0 (image_of bound (ActorThing a ∷ ts) w) ≡ image_of bound (made_things e a ts) w
  unfolding image_of waiting_before_replies
  installed_made w =
      let acts : List (Actor × ℕ) = filter_map actor_in ts in
      let p = split (list_all (s.is_new (fs.from_list (filter_map anonymous_in (MessageThing m ∷ ActorThing a ∷ ts) ++ bound))) (actor_names e.actors)) (s.are_different (actor_names e.actors)) names in
      let actors : write (s.put_actors e.actors (table_of actor_key (a ∷ acts))) (name_key a.0.name) (Some (actor_after e a)) ≡ table_of actor_key (filter_map actor_in (made_things e a ts)) =
      put_over e.actors (table_of actor_key acts) (name_key a.0.name) (Some a) (Some (actor_after e a))
      ∙ ap (λ t. write t (name_key a.0.name) (Some (actor_after e a))) (sym (put_actors_is e.actors acts))
      ∙ ap (table_of actor_key) (sym (made_actors e a ts)) in
      let given : s.give_names e.actors (fs.from_list {R = key_cmp} (filter_map anonymous_in (ActorThing a ∷ ts) ++ bound)) ≡ fs.from_list (filter_map anonymous_in (made_things e a ts) ++ bound) =
      given_now e.actors (anonymous_name a.0.name) (filter_map anonymous_in ts) bound
      ∙ ap (λ ks. fs.from_list (ks ++ bound)) (sym (made_names e a ts (fs.from_list (filter_map anonymous_in (MessageThing m ∷ ActorThing a ∷ ts) ++ bound)) p.0)) in
      let creations : s.put_creations a.0.name e.creations (table_of creation_key (filter_map creation_in ts)) ≡ table_of creation_key (filter_map creation_in (made_things e a ts)) =
      sym (put_creations_is a.0.name e.creations (filter_map creation_in ts)) ∙ ap (table_of creation_key) (sym (made_creations e a ts)) in
      λ i. record (image_of bound (made_things e a ts) w) { actors = actors i; given = given i; creations = creations i; waiting = sym waits_now i }

  fits : (w : History) → s.fits_fresh (actor_names e.actors) e (image_of bound (ActorThing a ∷ ts) w) ≡ true
  unfolding image_of
  fits w = λ i. eq-eqb (length (actor_names e.actors)) (length e.actors) (names_length e.actors) i && names i

  handles : (outcomes : Call → Outcome) (w : History) → is_ready m ≡ true → m.target ≡ target.Actor a.0.name → s.understands a.0 m ≡ true → outcomes (s.call_of m a (actor_names e.actors)) ≡ outcome.Done e
      → s.handle_step outcomes m.maker m.serial (actor_names e.actors) (image_of bound (MessageThing m ∷ ActorThing a ∷ ts) w) ≡ Some (give_all (s.step_replies e m.reply) (image_of bound (made_things e a ts) w))
  handles outcomes w ready to it done =
      let fresh : List Name = actor_names e.actors in
      let d : Configuration = image_of bound (ActorThing a ∷ ts) w in
      met outcomes fresh m a ts bound w ready to once
      ∙ ap (λ b. if b then s.after_outcome (outcomes (s.call_of m a fresh)) m.maker m.serial fresh m a.0 d else s.if_no_names fresh (s.add_fault Rattle.sal_mail.specs.declared.fault.FaultKind.TheVariants.NoHandler m.maker m.serial d)) it
      ∙ ap (λ o. s.after_outcome o m.maker m.serial fresh m a.0 d) done
      ∙ ap (λ b. if b then Some (give_all (s.step_replies e m.reply) (s.with_effects e a.0 d)) else None) (fits w)
      ∙ ap (λ c. Some (give_all (s.step_replies e m.reply) c)) (installed_made w)

  made_stands : StandOnce (map ReplyThing (s.step_replies e m.reply) ++ made_things e a ts)
  made_stands = made_once e m a bound ts sizes (actor_names e.actors) order names below once

  answer_now : List DueReply
  answer_now = s.answer_replies e.answer m.reply

  pub gives_arrays : s.step_replies e m.reply ≡ map join_reply (filter is_full e.joins) ++ s.answer_replies e.answer m.reply
  gives_arrays = ap (λ zs. zs ++ s.answer_replies e.answer m.reply) (arrays_same e.joins)

  given_stands : StandOnce (map ReplyThing (legal_step_replies e m.reply) ++ made_things e a ts)
  given_stands =
      legal_once (map join_reply (filter is_full e.joins)) (s.answer_replies e.answer m.reply) (made_things e a ts)
      (subst (λ (gs : List DueReply). StandOnce (map ReplyThing gs ++ made_things e a ts)) gives_arrays made_stands)

  gives : (w v : History) (joins : Table (Name × Join)) → is_ready m ≡ true → joins ≡ (waiting_after_replies (MessageThing m ∷ ActorThing a ∷ ts)).joins
      → Continues w v [] [] (answers_of_replies joins (open_joins_of a.0.name e.joins) (legal_step_replies e m.reply)) w.posted
      → give_all (s.step_replies e m.reply) (image_of bound (made_things e a ts) w) ≡ image_of bound (map ReplyThing (legal_step_replies e m.reply) ++ made_things e a ts) v
  unfolding waiting_before_replies
  gives w v joins ready before told =
      let d : Waiting = record { messages = fm.empty; joins = with_opened (open_joins_of a.0.name e.joins) joins } in
      let same : d.joins ≡ (waiting_after_replies (made_things e a ts)).joins =
      opened_is a.0.name e.joins joins ∙ ap (s.put_joins a.0.name e.joins) (before ∙ ap (λ (c : Waiting). c.joins) (ready_beside m (ActorThing a ∷ ts) ready)) ∙ ap (λ (c : Waiting). c.joins) (sym waits_now) in
      let answers : v.answers ≡ w.answers ++ settle_all_answers (s.step_replies e m.reply) d =
      told.answers ∙ ap (λ zs. w.answers ++ zs) (sym (ap (λ gs. settle_all_answers gs d) gives_arrays ∙ legal_told (map join_reply (filter is_full e.joins)) (s.answer_replies e.answer m.reply) d)) in
      given_made (s.step_replies e m.reply) (made_things e a ts) bound w v d made_stands same (told.output ∙ append-nil w.output) (told.faults ∙ append-nil w.faults) answers told.posted
      ∙ ap (λ gs. image_of bound (map ReplyThing gs ++ made_things e a ts) v) gives_arrays
      ∙ legal_made (map join_reply (filter is_full e.joins)) (s.answer_replies e.answer m.reply) (made_things e a ts) bound v

-- ---- the pieces that a handler leaves

module _ (asks : Creation → Bool) (e : Effects) (m : Message) (a : Actor × ℕ) (b : Book) (rest : List Piece) where
  abbrev work : List Piece
  work = handler_pieces e m.reply

  abbrev makings : List Piece
  makings = flat_map (creation_pieces asks a.0.name) e.creations

  abbrev all_pieces : List Piece
  all_pieces = pieces_after asks e m a b ++ rest

  abbrev own_messages : List Message
  own_messages = filter is_ready e.messages

  abbrev own_replies : List DueReply
  own_replies = full_replies e.joins

  -- any sum over what is to be routed
  pub work_total : (F : Piece → ℕ) → total F (handler_pieces e m.reply)
      ≡ total (λ x. F (loose_call x)) (filter is_ready e.messages) + (total (λ g. F (OwedReply g)) (full_replies e.joins) + total (λ g. F (OwedReply g)) (s.answer_replies e.answer m.reply))
  work_total F =
      omega (
        arith,
        total-append F (map loose_call (filter is_ready e.messages) ++ map OwedReply (full_replies e.joins)) (map OwedReply (s.answer_replies e.answer m.reply)),
        total-append F (map loose_call (filter is_ready e.messages)) (map OwedReply (full_replies e.joins)),
        total-map F loose_call (filter is_ready e.messages),
        total-map F OwedReply (full_replies e.joins),
        total-map F OwedReply (s.answer_replies e.answer m.reply),
      )

  pub parts_total : (F : Piece → ℕ) → total F (pieces_after asks e m a b ++ rest)
      ≡ F (Body (actor_after e a) (book_after_entry e.messages e.joins b)) + (total (λ x. F (new_actor_piece x)) e.actors + (total (λ x. total F (creation_pieces asks a.0.name x)) e.creations + (total F (handler_pieces e m.reply) + total F rest)))
  parts_total F =
      omega (
        arith,
        total-append F (map new_actor_piece e.actors ++ (makings ++ work)) rest,
        total-append F (map new_actor_piece e.actors) (makings ++ work),
        total-append F makings work,
        total-map F new_actor_piece e.actors,
        total_flat F (creation_pieces asks a.0.name) e.creations,
      )

  no_answer : (key : TableKey) (c : Bool) (x : Creation) → total (decides key c) (creation_pieces asks a.0.name x) ≡ 0
  no_answer key c x = at (asks x)
    where
      at : (t : Bool) → 0 + total (decides key c) (if t then Put (made_key a.0.name x.serial) x.name ∷ [] else []) ≡ 0
      at true = omega arith
      at false = omega arith

  -- nothing that a handler leaves decides a creation
  decide_alike : (key : TableKey) (c : Bool) → total (decides key c) (pieces_after asks e m a b ++ rest) ≡ total (decides key c) rest
  decide_alike key c =
      let none : total (λ x. total (decides key c) (creation_pieces asks a.0.name x)) e.creations ≡ 0 = total_ext (λ x. total (decides key c) (creation_pieces asks a.0.name x)) (λ x. 0) (no_answer key c) e.creations ∙ total_zero e.creations in
      omega (
        arith,
        parts_total (decides key c),
        work_total (decides key c),
        none,
        total_zero e.actors,
        total_zero (filter is_ready e.messages),
        total_zero (full_replies e.joins),
        total_zero (s.answer_replies e.answer m.reply),
      )

  verdict : (k n : ℕ) (x : Creation) → List Thing
  verdict k n x = if nat_lt 0 k then ActorThing (s.bound_actor x, 0) ∷ [] else if nat_lt 0 n then [] else CreationThing (a.0.name, x) ∷ []

  creation_total : (f : Thing → ℕ) (x : Creation) → NoneIsDecided a.0.name a.1 rest → a.1 ≤ x.serial → total (λ p. total f (piece_things all_pieces p)) (creation_pieces asks a.0.name x) ≡ f (CreationThing (a.0.name, x))
  unfolding verdict
  creation_total f x none high =
      let k : TableKey = made_key a.0.name x.serial in
      let yes : total (decides k true) all_pieces ≡ 0 = decide_alike k true ∙ none x.serial true high in
      let never : total (decides k false) all_pieces ≡ 0 = decide_alike k false ∙ none x.serial false high in
      let here : total f (piece_things all_pieces (WaitingCreation (a.0.name, x))) ≡ f (CreationThing (a.0.name, x)) + 0 = (λ i. total f (verdict (yes i) (never i) x)) in
      at (asks x) here
    where
      at : (t : Bool) → total f (piece_things all_pieces (WaitingCreation (a.0.name, x))) ≡ f (CreationThing (a.0.name, x)) + 0
          → total f (piece_things all_pieces (WaitingCreation (a.0.name, x))) + total (λ p. total f (piece_things all_pieces p)) (if t then Put (made_key a.0.name x.serial) x.name ∷ [] else []) ≡ f (CreationThing (a.0.name, x))
      at true h = omega (arith, h)
      at false h = omega (arith, h)

  creations_total : (f : Thing → ℕ) → NoneIsDecided a.0.name a.1 rest → (xs : List Creation) → EachOf (λ x. a.1 ≤ x.serial) xs
      → total (λ x. total (λ p. total f (piece_things all_pieces p)) (creation_pieces asks a.0.name x)) xs ≡ total (λ x. f (CreationThing (a.0.name, x))) xs
  creations_total f none [] ups = refl
  creations_total f none (x ∷ xs) ups = λ i. creation_total f x none ups.0 i + creations_total f none xs ups.1 i

  pub left_same : NoneIsDecided a.0.name a.1 rest → EachOf (λ x. a.1 ≤ x.serial) e.creations
      → HasSameItems (map ReplyThing (legal_step_replies e m.reply) ++ made_things e a (beside_actor a b rest)) (things (pieces_after asks e m a b ++ rest))
  unfolding things
  left_same none high = record {
    weighs = λ f.
        let qs : List Piece = pieces_after asks e m a b ++ rest in
        let F : Piece → ℕ = λ (p : Piece). total f (piece_things qs p) in
        let P : Message → ℕ = λ (x : Message). f (message_thing x) in
        let O : Join → ℕ = λ (j : Join). f (JoinThing (a.0.name, j)) in
        let G : DueReply → ℕ = λ (g : DueReply). f (ReplyThing g) in
        let ms : List Message = b.messages ++ filter is_waiting e.messages in
        let js : List Join = b.joins ++ filter is_open e.joins in
        let pends : List Thing = map message_thing b.messages in
        let opens_of : List Thing = map (λ j. JoinThing (a.0.name, j)) b.joins in
        let others : total f (things rest) ≡ total F rest = ap (total f) (sym (like_rest qs rest decide_alike rest)) ∙ total_flat f (piece_things qs) rest in
        let newborns : total (λ x. F (new_actor_piece x)) e.actors ≡ total (λ x. f (ActorThing (x, 0))) e.actors = total_ext (λ x. F (new_actor_piece x)) (λ x. f (ActorThing (x, 0))) (λ x. omega arith) e.actors in
        let calls : total (λ x. F (loose_call x)) (filter is_ready e.messages) ≡ total P (filter is_ready e.messages) = total_ext (λ x. F (loose_call x)) P (λ x. omega arith) (filter is_ready e.messages) in
        let arrays : total (λ g. F (OwedReply g)) (full_replies e.joins) ≡ total G (full_replies e.joins) = total_ext (λ g. F (OwedReply g)) G (λ g. omega arith) (full_replies e.joins) in
        let answers : total (λ g. F (OwedReply g)) (s.answer_replies e.answer m.reply) ≡ total G (s.answer_replies e.answer m.reply) = total_ext (λ g. F (OwedReply g)) G (λ g. omega arith) (s.answer_replies e.answer m.reply) in
        omega (
          arith,
          given_total f (legal_step_replies e m.reply) (made_things e a (beside_actor a b rest)),
          total-append G (full_replies e.joins) (s.answer_replies e.answer m.reply),
          made_total f e a (beside_actor a b rest),
          total-append f (pends ++ opens_of) (things rest),
          total-append f pends opens_of,
          total-map f message_thing b.messages,
          total-map f (λ j. JoinThing (a.0.name, j)) b.joins,
          total_flat f (piece_things qs) qs,
          parts_total F,
          work_total F,
          creations_total f none e.creations high,
          others,
          newborns,
          calls,
          arrays,
          answers,
          total-append f (map message_thing ms) (map (λ j. JoinThing (a.0.name, j)) js),
          total-map f message_thing ms,
          total-map f (λ j. JoinThing (a.0.name, j)) js,
          total-append P b.messages (filter is_waiting e.messages),
          total-append O b.joins (filter is_open e.joins),
          total_parted P is_ready e.messages,
        );
  }

-- ---- the law

pub handlers_step : HandlersAreSteps
handlers_step = record {
  step = λ outcomes sizes e m a b asks rest bound w v h told.
      let ts : List Thing = beside_actor a b rest in
      let first = call_and_body m a b rest in
      let once : StandOnce (MessageThing (without_delay m) ∷ ActorThing a ∷ ts) = subst (λ (zs : List Thing). StandOnce zs) first h.stands in
      let below : IsBelow a.0.name a.1 (MessageThing (without_delay m) ∷ ActorThing a ∷ ts) = subst (λ (zs : List Thing). IsBelow a.0.name a.1 zs) first h.below in
      let names : s.are_fresh (actor_names e.actors) (fs.from_list {R = key_cmp} (filter_map anonymous_in (MessageThing (without_delay m) ∷ ActorThing a ∷ ts) ++ bound)) ≡ true =
      subst (λ (zs : List Thing). s.are_fresh (actor_names e.actors) (fs.from_list {R = key_cmp} (filter_map anonymous_in zs ++ bound)) ≡ true) first h.fresh in
      let high = creations_high e (without_delay m) a bound ts sizes (actor_names e.actors) h.orderly names below once in
      let left = left_same asks e m a b rest h.undecided high in
      let stands = given_stands e (without_delay m) a bound ts sizes h.orderly names below once in
      ap (λ zs. s.handle_step outcomes m.maker m.serial (actor_names e.actors) (image_of bound zs w)) first
      ∙ handles e (without_delay m) a bound ts sizes h.orderly names below once outcomes w h.ready h.target h.understood h.done
      ∙ ap Some (gives e (without_delay m) a bound ts sizes h.orderly names below once w v (open_joins_in (loose_call m ∷ Body a b ∷ rest)) h.ready (ap (λ zs. (waiting_after_replies zs).joins) first) told)
      ∙ ap Some (same_made (map ReplyThing (legal_step_replies e m.reply) ++ made_things e a ts) (things (pieces_after asks e m a b ++ rest)) bound v left stands);
  once = λ outcomes sizes e m a b asks rest bound h.
      let ts : List Thing = beside_actor a b rest in
      let first = call_and_body m a b rest in
      let once : StandOnce (MessageThing (without_delay m) ∷ ActorThing a ∷ ts) = subst (λ (zs : List Thing). StandOnce zs) first h.stands in
      let below : IsBelow a.0.name a.1 (MessageThing (without_delay m) ∷ ActorThing a ∷ ts) = subst (λ (zs : List Thing). IsBelow a.0.name a.1 zs) first h.below in
      let names : s.are_fresh (actor_names e.actors) (fs.from_list {R = key_cmp} (filter_map anonymous_in (MessageThing (without_delay m) ∷ ActorThing a ∷ ts) ++ bound)) ≡ true =
      subst (λ (zs : List Thing). s.are_fresh (actor_names e.actors) (fs.from_list {R = key_cmp} (filter_map anonymous_in zs ++ bound)) ≡ true) first h.fresh in
      let high = creations_high e (without_delay m) a bound ts sizes (actor_names e.actors) h.orderly names below once in
      once_same (map ReplyThing (legal_step_replies e m.reply) ++ made_things e a ts) (things (pieces_after asks e m a b ++ rest)) (left_same asks e m a b rest h.undecided high)
      (given_stands e (without_delay m) a bound ts sizes h.orderly names below once);
}
