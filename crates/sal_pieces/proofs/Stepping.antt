-- Steps that print, post and fail.
use Rattle.std.proofs.Common.{◌≡◌, inl, inr, ℕ, ◌+◌, ◌≤◌, Bool, true, false, cond, ◌&&◌, List, [], ◌∷◌, ◌++◌, map, Option, Some, None, refl, sym, ap, subst, ◌∙◌, arith, append-nil}
use Rattle.std.specs.Prelude.{◌≢◌, if◌then◌else◌, filter_map}
use Rattle.std.specs.Option.{option_map}
use Rattle.std.specs.List.{cons_option, list_all}
use Rattle.std.proofs.lemmas.List.{map-append}
use Rattle.std.specs.FinMap as fm
use Rattle.sal_value.specs.declared.name.Name.{Name}
use Rattle.sal_value.specs.declared.value.Value.{Value}
use Rattle.sal_value.specs.declared.value.Value.TheVariants.{Null}
use Rattle.sal_value.specs.declared.name.Uan.{Uan}
use Rattle.sal_mail.specs.declared.message.Piece.TheVariants.{Known}
use Rattle.sal_mail.specs.declared.message.Reply.{Reply}
use Rattle.sal_mail.specs.declared.message.Reply.TheVariants.{Nobody}
use Rattle.sal_mail.specs.declared.message.Target.TheVariants as target
use Rattle.sal_mail.specs.declared.message.Message.{Message}
use Rattle.sal_mail.specs.declared.message.Join.{Join}
use Rattle.sal_mail.specs.declared.effects.Actor.{Actor}
use Rattle.sal_mail.specs.declared.fault.FaultKind.{FaultKind}
use Rattle.sal_mail.specs.declared.fault.FaultKind.TheVariants.{Trap as Trapped, NoHandler}
use Rattle.sal_mail.specs.declared.fault.Trap.{Trap}
use Rattle.std.specs.Str.{bytes_eq}
use Rattle.std.proofs.lemmas.Slice.Eq.{bytes_eq-Decides}
use Rattle.sal_mail.specs.ReplyKeys.{reply_key, owes}
use Rattle.sal_mail.specs.Message.{is_known, is_ready, with_reply, without_delay}
use Rattle.sal_handler.specs.Calls.{Call}
use Rattle.sal_handler.specs.declared.turn.Outcome.{Outcome}
use Rattle.sal_handler.specs.declared.turn.Outcome.TheVariants as outcome
use Rattle.sal_source.specs.Table.{TableKey, key_eq, Table, table_of, total}
use Rattle.sal_source.specs.Keys.{name_key, made_key, message_key, join_key, actor_key}
use Rattle.sal_source.specs.Configuration.{Waiting, Configuration}
use Rattle.sal_source.specs.Give.{DueReply, resolve, settle_all, settle_all_answers, give_all}
use Rattle.sal_source.specs.Posts.{fits_post, post_message}
use Rattle.sal_source.specs.Step as s
use Rattle.sal_source.specs.Laws.{IsOwedOnce}
use Rattle.sal_source.proofs.Same.{total-append}
use Rattle.sal_source.proofs.Tables.{words_refl, words_tells, get-table_of}
use Rattle.sal_source.proofs.Listing.{write_nothing}
use Rattle.sal_source.proofs.Commute.{commute, get-write_same, write_again}
use Rattle.sal_source.proofs.Fuel.{give_both}
use Rattle.sal_book.specs.Book.{Book}
use Rattle.sal_pieces.specs.Pieces.{Piece, Body, OwedReply, Thing, ActorThing, MessageThing, JoinThing, ReplyThing, message_thing, loose_call, book_things, things}
use Rattle.sal_pieces.specs.Image.{History, actor_in, message_in, join_in, creation_in, reply_in, anonymous_in, waiting_before_replies, waiting_after_replies, image_of}
use Rattle.sal_pieces.specs.Once.{one_if_key, message_key_in, count_at_key, count_owed, StandOnce}
use Rattle.sal_pieces.specs.Steps.{Continues, answers_of_replies, open_joins_in, fault_of, PrintsAreSteps, FailuresAreSteps, PostsAreSteps}
use Rattle.sal_pieces.proofs.Order.{absent as none_found, message_test, few_of, message_one, owed_once}
use Rattle.sal_pieces.proofs.Entering.{like_rest, ready_same}
use Rattle.sal_pieces.proofs.Answers.{need_joins}
use Rattle.sal_pieces.proofs.Beside.{new_in, give_apart, with_message, apart_message}

-- ---- sums

pub total_zero : {A : Type 0} (xs : List A) → total (λ x. 0) xs ≡ 0
total_zero [] = refl
total_zero (x ∷ xs) = omega (arith, total_zero xs)

-- where no reply_key counts as new
pub nothing_new : (gs : List DueReply) (c : Waiting) → new_in (λ r. 0) gs c ≡ 0
nothing_new gs c = omega (arith, total_zero gs, total_zero (fm.entries c.joins))

-- ---- the first piece

pub first_loose : (m : Message) (rest : List Piece) → things (loose_call m ∷ rest) ≡ message_thing m ∷ things rest
unfolding things
first_loose m rest = ap (λ ts. message_thing m ∷ ts) (like_rest (loose_call m ∷ rest) rest (λ key c. omega arith) rest)

pub first_owed : (g : DueReply) (rest : List Piece) → things (OwedReply g ∷ rest) ≡ ReplyThing g ∷ things rest
unfolding things
first_owed g rest = ap (λ ts. ReplyThing g ∷ ts) (like_rest (OwedReply g ∷ rest) rest (λ key c. omega arith) rest)

pub first_body : (a : Actor × ℕ) (b : Book) (rest : List Piece) → things (Body a b ∷ rest) ≡ book_things a b ++ things rest
unfolding things
first_body a b rest = ap (λ ts. book_things a b ++ ts) (like_rest (Body a b ∷ rest) rest (λ key c. omega arith) rest)

-- ---- a message in front

ready_waits : (m : Message) → is_ready m ≡ true → (o : Name) (n : ℕ) (v : Value) → option_map (resolve o n v) (Some m) ≡ Some m
ready_waits m r o n v = at (key_eq (name_key o) (name_key m.maker))
  where
    at : (b : Bool) → Some (cond b (with_reply n v m) m) ≡ Some m
    at true = ap Some (ready_same n v m r)
    at false = refl

-- what is ready waits beside the replies that are given
pub ready_beside : (m : Message) (ts : List Thing) → is_ready m ≡ true → waiting_after_replies (MessageThing m ∷ ts) ≡ with_message (message_key m) (Some m) (waiting_after_replies ts)
unfolding waiting_before_replies
ready_beside m ts r =
    give_apart (λ x. 0) (with_message (message_key m) (Some m)) (apart_message (λ x. 0) (message_key m) (Some m) (λ o n v z. ready_waits m r o n v)) (filter_map reply_in ts) (waiting_before_replies ts) (nothing_new (filter_map reply_in ts) (waiting_before_replies ts))

-- nothing has the key
absent : (k : TableKey) (ts : List Thing) → count_at_key message_key_in k ts ≡ 0 → fm.get (waiting_before_replies ts).messages k ≡ None
unfolding waiting_before_replies
absent k ts none =
    let few = few_of message_key message_in message_key_in message_one ts k in
    get-table_of message_key (filter_map message_in ts) k ∙ none_found message_key message_test k (filter_map message_in ts) (omega (arith, few, none))

-- and nothing comes there as replies are given
pub dropped_same : (k : TableKey) (ts : List Thing) → count_at_key message_key_in k ts ≡ 0 → with_message k None (waiting_after_replies ts) ≡ waiting_after_replies ts
dropped_same k ts none =
    sym (give_apart (λ x. 0) (with_message k None) (apart_message (λ x. 0) k None (λ o n v z. refl)) (filter_map reply_in ts) (waiting_before_replies ts) (nothing_new (filter_map reply_in ts) (waiting_before_replies ts)))
    ∙ ap (λ t. settle_all (filter_map reply_in ts) (record (waiting_before_replies ts) { messages = t })) (write_nothing (waiting_before_replies ts).messages k (absent k ts none))

pub none_else : (m : Message) (ts : List Thing) → StandOnce (MessageThing m ∷ ts) → count_at_key message_key_in (message_key m) ts ≡ 0
none_else m ts once =
    let one : one_if_key (message_key m) (Some (message_key m)) ≡ 1 = ap (λ (b : Bool). if◌then◌else◌ {A = ℕ} b 1 0) (words_refl (message_key m)) in
    let few = once.messages (message_key m) in
    omega (arith, one, few)

-- the message is pending, and is gone once it is dropped
pub is_pending : (m : Message) (ts : List Thing) (bound : List TableKey) (w : History) → is_ready m ≡ true → s.pending m.maker m.serial (image_of bound (MessageThing m ∷ ts) w) ≡ Some m
unfolding image_of
is_pending m ts bound w r = ap (λ (c : Waiting). fm.get c.messages (message_key m)) (ready_beside m ts r) ∙ get-write_same (waiting_after_replies ts).messages (message_key m) (Some m)

pub dropped : (m : Message) (ts : List Thing) (bound : List TableKey) (w : History) → is_ready m ≡ true → StandOnce (MessageThing m ∷ ts) → s.drop_message m.maker m.serial (image_of bound (MessageThing m ∷ ts) w) ≡ image_of bound ts w
unfolding image_of
dropped m ts bound w r once =
    let k : TableKey = message_key m in
    let gone : with_message k None (waiting_after_replies (MessageThing m ∷ ts)) ≡ waiting_after_replies ts =
    ap (with_message k None) (ready_beside m ts r) ∙ ap (λ t. record (waiting_after_replies ts) { messages = t }) (write_again (waiting_after_replies ts).messages k (Some m) None) ∙ dropped_same k ts (none_else m ts once) in
    λ i. record (image_of bound ts w) { waiting = gone i }

-- ---- replies in front

pub the_replies : (gs : List DueReply) (ts : List Thing) → filter_map reply_in (map ReplyThing gs ++ ts) ≡ gs ++ filter_map reply_in ts
the_replies [] ts = refl
the_replies (g ∷ gs) ts = ap (λ zs. g ∷ zs) (the_replies gs ts)

pub past_replies : {X : Type 0} (h : Thing → Option X) → ((g : DueReply) → h (ReplyThing g) ≡ None) → (gs : List DueReply) (ts : List Thing) → filter_map h (map ReplyThing gs ++ ts) ≡ filter_map h ts
past_replies h none [] ts = refl
past_replies {X} h none (g ∷ gs) ts = ap (λ (o : Option X). cons_option o (filter_map h (map ReplyThing gs ++ ts))) (none g) ∙ past_replies h none gs ts

-- replies are given after those that were to be given before
pub given_last : (gs : List DueReply) (ts : List Thing) → StandOnce (map ReplyThing gs ++ ts) → waiting_after_replies (map ReplyThing gs ++ ts) ≡ settle_all gs (waiting_after_replies ts)
unfolding waiting_before_replies
given_last gs ts once =
    let rs : List DueReply = filter_map reply_in ts in
    let same : waiting_before_replies (map ReplyThing gs ++ ts) ≡ waiting_before_replies ts =
    (λ i. record { messages = table_of message_key (past_replies message_in (λ g. refl) gs ts i); joins = table_of join_key (past_replies join_in (λ g. refl) gs ts i) }) in
    let owed : IsOwedOnce (gs ++ rs) (waiting_before_replies ts) = subst (λ (zs : List DueReply). IsOwedOnce zs (waiting_before_replies ts)) (the_replies gs ts) (subst (λ (c : Waiting). IsOwedOnce (filter_map reply_in (map ReplyThing gs ++ ts)) c) same (owed_once (map ReplyThing gs ++ ts) once)) in
    (λ i. settle_all (the_replies gs ts i) (same i))
    ∙ (commute (gs ++ rs) (rs ++ gs) (waiting_before_replies ts) owed (record { weighs = λ f. omega (arith, total-append f gs rs, total-append f rs gs) })).0
    ∙ give_both rs gs (waiting_before_replies ts)

-- the image with these replies in front, where what they tell was told
pub given_made : (gs : List DueReply) (ts : List Thing) (bound : List TableKey) (w v : History) (d : Waiting) → StandOnce (map ReplyThing gs ++ ts)
    → d.joins ≡ (waiting_after_replies ts).joins → v.output ≡ w.output → v.faults ≡ w.faults → v.answers ≡ w.answers ++ settle_all_answers gs d → v.posted ≡ w.posted
    → give_all gs (image_of bound ts w) ≡ image_of bound (map ReplyThing gs ++ ts) v
unfolding image_of
given_made gs ts bound w v d once joins output faults answers posted =
    let actors = past_replies actor_in (λ g. refl) gs ts in
    let creations = past_replies creation_in (λ g. refl) gs ts in
    let names = past_replies anonymous_in (λ g. refl) gs ts in
    let waiting = given_last gs ts once in
    let told : v.answers ≡ w.answers ++ settle_all_answers gs (waiting_after_replies ts) = answers ∙ ap (λ zs. w.answers ++ zs) (need_joins gs d (waiting_after_replies ts) joins).0 in
    sym (λ i. record {
      actors = table_of actor_key (actors i);
      given = Rattle.std.specs.FinSet.from_list (names i ++ bound);
      creations = table_of Rattle.sal_source.specs.Keys.creation_key (creations i);
      waiting = waiting i;
      output = output i;
      faults = faults i;
      answers = told i;
      posted = posted i;
    })

-- ---- what is left stands once

pub tail_once : (t : Thing) (ts : List Thing) → StandOnce (t ∷ ts) → StandOnce ts
tail_once t ts h = record {
  actors = λ k. (let u = h.actors k in omega arith);
  messages = λ k. (let u = h.messages k in omega arith);
  joins = λ k. (let u = h.joins k in omega arith);
  creations = λ k. (let u = h.creations k in omega arith);
  replies = λ r some. (let u = h.replies r some in omega arith);
}

null_once : (m : Message) (v : Value) (ts : List Thing) → StandOnce (MessageThing m ∷ ts) → StandOnce (ReplyThing (m.reply, v) ∷ ts)
null_once m v ts h = record {
  actors = λ k. (let u = h.actors k in omega arith);
  messages = λ k. (let u = h.messages k in omega arith);
  joins = λ k. (let u = h.joins k in omega arith);
  creations = λ k. (let u = h.creations k in omega arith);
  replies = λ r some. (let u = h.replies r some in omega arith);
}

-- ---- printing

module _ (m : Message) (ts : List Thing) (bound : List TableKey) (w : History) (ready : is_ready m ≡ true) (to : m.target ≡ target.Output) (once : StandOnce (MessageThing m ∷ ts)) where
  print_is : s.print_step m.maker m.serial (image_of bound (MessageThing m ∷ ts) w) ≡ Some (give_all ((m.reply, Null) ∷ []) (s.add_output (s.message_text m) (image_of bound ts w)))
  print_is =
      ap (λ o. s.if_ready o (λ x. s.print_message m.maker m.serial x (image_of bound (MessageThing m ∷ ts) w))) (is_pending m ts bound w ready)
      ∙ ap (λ b. if b then s.print_message m.maker m.serial m (image_of bound (MessageThing m ∷ ts) w) else None) ready
      ∙ ap (λ t. s.print_to t m (s.drop_message m.maker m.serial (image_of bound (MessageThing m ∷ ts) w))) to
      ∙ ap (λ c. Some (give_all ((m.reply, Null) ∷ []) (s.add_output (s.message_text m) c))) (dropped m ts bound w ready once)

abbrev printing : List ℕ → History → History
printing text w = record w { output = w.output ++ text ∷ [] }

printing_is : (ts : List Thing) (bound : List TableKey) (text : List ℕ) (w : History) → s.add_output text (image_of bound ts w) ≡ image_of bound ts (printing text w)
unfolding image_of
printing_is ts bound text w = refl

prints : (m : Message) (ts : List Thing) (bound : List TableKey) (w v : History) (joins : Table (Name × Join)) → is_ready m ≡ true → m.target ≡ target.Output → StandOnce (MessageThing m ∷ ts)
    → joins ≡ (waiting_after_replies (MessageThing m ∷ ts)).joins
    → Continues w v (s.message_text m ∷ []) [] (answers_of_replies joins [] ((m.reply, Null) ∷ [])) w.posted
    → s.print_step m.maker m.serial (image_of bound (MessageThing m ∷ ts) w) ≡ Some (image_of bound (ReplyThing (m.reply, Null) ∷ ts) v)
prints m ts bound w v joins ready to once same told =
    let g : DueReply = (m.reply, Null) in
    print_is m ts bound w ready to once
    ∙ ap (λ c. Some (give_all (g ∷ []) c)) (printing_is ts bound (s.message_text m) w)
    ∙ ap Some (given_made (g ∷ []) ts bound (printing (s.message_text m) w) v (record { messages = fm.empty; joins = joins }) (null_once m Null ts once) (same ∙ ap (λ (c : Waiting). c.joins) (ready_beside m ts ready)) told.output (told.faults ∙ append-nil w.faults) told.answers told.posted)

pub prints_step : PrintsAreSteps
prints_step = record {
  step = λ m rest bound w v ready to once told.
      ap (λ ts. s.print_step m.maker m.serial (image_of bound ts w)) (first_loose m rest)
      ∙ prints (Rattle.sal_mail.specs.Message.without_delay m) (things rest) bound w v (open_joins_in (loose_call m ∷ rest)) ready to (subst (λ (ts : List Thing). StandOnce ts) (first_loose m rest) once) (ap (λ ts. (waiting_after_replies ts).joins) (first_loose m rest)) told
      ∙ ap (λ ts. Some (image_of bound ts v)) (sym (first_owed (m.reply, Null) rest));
  once = λ m rest once. subst (λ (ts : List Thing). StandOnce ts) (sym (first_owed (m.reply, Null) rest)) (null_once (Rattle.sal_mail.specs.Message.without_delay m) Null (things rest) (subst (λ (ts : List Thing). StandOnce ts) (first_loose m rest) once));
}

-- ---- failures

-- an actor in front
actor_here : (m : Message) (a : Actor × ℕ) (ts : List Thing) (bound : List TableKey) (w : History) → m.target ≡ target.Actor a.0.name → s.actor_at m.target (image_of bound (MessageThing m ∷ ActorThing a ∷ ts) w) ≡ Some a
unfolding image_of
actor_here m a ts bound w to =
    ap (λ t. s.actor_at t (image_of bound (MessageThing m ∷ ActorThing a ∷ ts) w)) to
    ∙ get-write_same (table_of actor_key (filter_map actor_in ts)) (actor_key a) (Some a)

-- the message goes and meets the actor
pub met : (outcomes : Call → Outcome) (fresh : List Name) (m : Message) (a : Actor × ℕ) (ts : List Thing) (bound : List TableKey) (w : History) → is_ready m ≡ true → m.target ≡ target.Actor a.0.name → StandOnce (MessageThing m ∷ ActorThing a ∷ ts)
    → s.handle_step outcomes m.maker m.serial fresh (image_of bound (MessageThing m ∷ ActorThing a ∷ ts) w) ≡ s.handle_by_actor outcomes m.maker m.serial fresh m a (image_of bound (ActorThing a ∷ ts) w)
met outcomes fresh m a ts bound w ready to once =
    let c : Configuration = image_of bound (MessageThing m ∷ ActorThing a ∷ ts) w in
    ap (λ o. s.if_ready o (λ x. s.handle_message outcomes m.maker m.serial fresh x c)) (is_pending m (ActorThing a ∷ ts) bound w ready)
    ∙ ap (λ b. if b then s.handle_message outcomes m.maker m.serial fresh m c else None) ready
    ∙ ap (λ o. s.handle_if_actor outcomes m.maker m.serial fresh m o (s.drop_message m.maker m.serial c)) (actor_here m a ts bound w to)
    ∙ ap (λ d. s.handle_by_actor outcomes m.maker m.serial fresh m a d) (dropped m (ActorThing a ∷ ts) bound w ready once)

failed_is : (kind : FaultKind) (m : Message) (ts : List Thing) (bound : List TableKey) (w v : History) → Continues w v [] (fault_of kind m ∷ []) [] w.posted
    → s.add_fault kind m.maker m.serial (image_of bound ts w) ≡ image_of bound ts v
unfolding image_of
failed_is kind m ts bound w v told = sym (λ i. record (image_of bound ts w) {
  output = (told.output ∙ append-nil w.output) i;
  faults = told.faults i;
  answers = (told.answers ∙ append-nil w.answers) i;
  posted = told.posted i;
})

no_handlers : (outcomes : Call → Outcome) (m : Message) (a : Actor × ℕ) (ts : List Thing) (bound : List TableKey) (w v : History) → is_ready m ≡ true → m.target ≡ target.Actor a.0.name → s.understands a.0 m ≡ false
    → StandOnce (MessageThing m ∷ ActorThing a ∷ ts) → Continues w v [] (fault_of NoHandler m ∷ []) [] w.posted
    → s.handle_step outcomes m.maker m.serial [] (image_of bound (MessageThing m ∷ ActorThing a ∷ ts) w) ≡ Some (image_of bound (ActorThing a ∷ ts) v)
no_handlers outcomes m a ts bound w v ready to not_it once told =
    let d : Configuration = image_of bound (ActorThing a ∷ ts) w in
    met outcomes [] m a ts bound w ready to once
    ∙ ap (λ b. if b then s.after_outcome (outcomes (s.call_of m a [])) m.maker m.serial [] m a.0 d else s.if_no_names [] (s.add_fault NoHandler m.maker m.serial d)) not_it
    ∙ ap Some (failed_is NoHandler m (ActorThing a ∷ ts) bound w v told)

traps : (outcomes : Call → Outcome) (m : Message) (a : Actor × ℕ) (kind : Trap) (ts : List Thing) (bound : List TableKey) (w v : History) → is_ready m ≡ true → m.target ≡ target.Actor a.0.name → s.understands a.0 m ≡ true
    → outcomes (s.call_of m a []) ≡ outcome.Trap kind → StandOnce (MessageThing m ∷ ActorThing a ∷ ts) → Continues w v [] (fault_of (Trapped kind) m ∷ []) [] w.posted
    → s.handle_step outcomes m.maker m.serial [] (image_of bound (MessageThing m ∷ ActorThing a ∷ ts) w) ≡ Some (image_of bound (ActorThing a ∷ ts) v)
traps outcomes m a kind ts bound w v ready to it out once told =
    let d : Configuration = image_of bound (ActorThing a ∷ ts) w in
    met outcomes [] m a ts bound w ready to once
    ∙ ap (λ b. if b then s.after_outcome (outcomes (s.call_of m a [])) m.maker m.serial [] m a.0 d else s.if_no_names [] (s.add_fault NoHandler m.maker m.serial d)) it
    ∙ ap (λ o. s.after_outcome o m.maker m.serial [] m a.0 d) out
    ∙ ap Some (failed_is (Trapped kind) m (ActorThing a ∷ ts) bound w v told)

-- what a body has beside its actor
abbrev pub beside_actor : Actor × ℕ → Book → List Piece → List Thing
beside_actor a b rest = (map message_thing b.messages ++ map (λ j. JoinThing (a.0.name, j)) b.joins) ++ things rest

pub call_and_body : (m : Message) (a : Actor × ℕ) (b : Book) (rest : List Piece) → things (loose_call m ∷ Body a b ∷ rest) ≡ message_thing m ∷ ActorThing a ∷ beside_actor a b rest
call_and_body m a b rest = first_loose m (Body a b ∷ rest) ∙ ap (λ ts. message_thing m ∷ ts) (first_body a b rest)

pub fails_step : FailuresAreSteps
fails_step = record {
  no_handler = λ outcomes m a b rest bound w v ready to not_it once told.
      ap (λ ts. s.handle_step outcomes m.maker m.serial [] (image_of bound ts w)) (call_and_body m a b rest)
      ∙ no_handlers outcomes (without_delay m) a (beside_actor a b rest) bound w v ready to not_it (subst (λ (ts : List Thing). StandOnce ts) (call_and_body m a b rest) once) told
      ∙ ap (λ ts. Some (image_of bound ts v)) (sym (first_body a b rest));
  trap = λ outcomes m a b kind rest bound w v ready to it out once told.
      ap (λ ts. s.handle_step outcomes m.maker m.serial [] (image_of bound ts w)) (call_and_body m a b rest)
      ∙ traps outcomes (without_delay m) a kind (beside_actor a b rest) bound w v ready to it out (subst (λ (ts : List Thing). StandOnce ts) (call_and_body m a b rest) once) told
      ∙ ap (λ ts. Some (image_of bound ts v)) (sym (first_body a b rest));
  once = λ m rest once. tail_once (message_thing m) (things rest) (subst (λ (ts : List Thing). StandOnce ts) (first_loose m rest) once);
}

-- ---- posts

all_known : (args : List Value) → list_all is_known (map Known args) ≡ true
all_known [] = refl
all_known (x ∷ args) = all_known args

post_ready : (number : ℕ) (to : Uan) (behavior handler : ℕ) (args : List Value) → is_ready (post_message number to behavior handler args) ≡ true
post_ready number to behavior handler args = ap (λ b. b && true) (all_known args)

post_made : (m : Message) (ts : List Thing) (bound : List TableKey) (number : ℕ) (w v : History) → is_ready m ≡ true → m ≡ without_delay m → Continues w v [] [] [] number
    → record (image_of bound ts w) { waiting = with_message (message_key m) (Some (without_delay m)) (waiting_after_replies ts); posted = number } ≡ image_of bound (MessageThing m ∷ ts) v
unfolding image_of
post_made m ts bound number w v ready same told = sym (λ i. record (image_of bound ts w) {
  waiting = (ready_beside m ts ready ∙ ap (λ x. with_message (message_key m) (Some x) (waiting_after_replies ts)) same) i;
  output = (told.output ∙ append-nil w.output) i;
  faults = (told.faults ∙ append-nil w.faults) i;
  answers = (told.answers ∙ append-nil w.answers) i;
  posted = told.posted i;
})

added_once : (m : Message) (ts : List Thing) → StandOnce ts → count_at_key message_key_in (message_key m) ts ≡ 0 → total (count_owed (reply_key m.reply)) ts ≡ 0 → StandOnce (MessageThing m ∷ ts)
added_once m ts h new owed = record {
  actors = λ k. (let u = h.actors k in omega arith);
  messages = λ k. by_key k;
  joins = λ k. (let u = h.joins k in omega arith);
  creations = λ k. (let u = h.creations k in omega arith);
  replies = λ r some. by_reply r some;
}
  where
    by_key : (k : TableKey) → one_if_key k (Some (message_key m)) + count_at_key message_key_in k ts ≤ 1
    by_key k = elim (words_tells k (message_key m)) [
      | inl e ↦ let one : one_if_key k (Some (message_key m)) ≡ 1 = ap (λ (b : Bool). if◌then◌else◌ {A = ℕ} b 1 0) e.0 in
          let none : count_at_key message_key_in k ts ≡ 0 = ap (λ q. count_at_key message_key_in q ts) e.1 ∙ new in omega (arith, one, none)
      | inr e ↦ let none : one_if_key k (Some (message_key m)) ≡ 0 = ap (λ (b : Bool). if◌then◌else◌ {A = ℕ} b 1 0) e.0 in let u = h.messages k in omega (arith, none, u)
    ]

    by_reply : (r : Reply) → r ≢ Nobody → owes (reply_key r) m.reply + total (count_owed (reply_key r)) ts ≤ 1
    by_reply r some = at (bytes_eq (reply_key r) (reply_key m.reply)) refl
      where
        at : (b : Bool) → bytes_eq (reply_key r) (reply_key m.reply) ≡ b → (if b then 1 else 0) + total (count_owed (reply_key r)) ts ≤ 1
        at true e = let none : total (count_owed (reply_key r)) ts ≡ 0 = ap (λ q. total (count_owed q) ts) ((bytes_eq-Decides (reply_key r) (reply_key m.reply)).0 e) ∙ owed in omega (arith, none)
        at false e = let u = h.replies r some in omega (arith, u)

posted_is : (bound : List TableKey) (ts : List Thing) (w : History) → (image_of bound ts w).posted ≡ w.posted
unfolding image_of
posted_is bound ts w = refl

of_post : (m : Message) (ts : List Thing) (bound : List TableKey) (number : ℕ) (w v : History)
    → record (image_of bound ts w) { waiting = record (image_of bound ts w).waiting { messages = s.put_message m (image_of bound ts w).waiting.messages }; posted = number }
    ≡ record (image_of bound ts w) { waiting = with_message (message_key m) (Some (without_delay m)) (waiting_after_replies ts); posted = number }
unfolding image_of
of_post m ts bound number w v = refl

pub posts_step : PostsAreSteps
posts_step = record {
  step = λ fits number to behavior handler args rest bound w v good told.
      ap (λ b. if b then Some (s.after_post number to behavior handler args (image_of bound (things rest) w)) else None) (unfolded fits number to behavior args rest bound w ∙ good)
      ∙ ap Some (post_is number to behavior handler args (things rest) bound w v told)
      ∙ ap (λ ts. Some (image_of bound ts v)) (sym (first_loose (post_message number to behavior handler args) rest));
  once = λ number to behavior handler args rest once new owed.
      subst (λ (ts : List Thing). StandOnce ts) (sym (first_loose (post_message number to behavior handler args) rest)) (added_once (post_message number to behavior handler args) (things rest) once new owed);
}
  where
    unfolded : (fits : Bool) (number : ℕ) (to : Uan) (behavior : ℕ) (args : List Value) (rest : List Piece) (bound : List TableKey) (w : History) → (fits && fits_post (image_of bound (things rest) w).posted number to behavior args) ≡ (fits && fits_post w.posted number to behavior args)
    unfolded fits number to behavior args rest bound w = ap (λ k. fits && fits_post k number to behavior args) (posted_is bound (things rest) w)

    post_is : (number : ℕ) (to : Uan) (behavior handler : ℕ) (args : List Value) (ts : List Thing) (bound : List TableKey) (w v : History) → Continues w v [] [] [] number
        → s.after_post number to behavior handler args (image_of bound ts w) ≡ image_of bound (MessageThing (post_message number to behavior handler args) ∷ ts) v
    post_is number to behavior handler args ts bound w v told = of_post (post_message number to behavior handler args) ts bound number w v ∙ post_made (post_message number to behavior handler args) ts bound number w v (post_ready number to behavior handler args) refl told
