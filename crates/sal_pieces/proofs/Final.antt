-- No step but a post is possible where nothing can come of any piece.
use Rattle.std.proofs.Common.{◌≡◌, ℕ, ◌+◌, Bool, true, false, not, cond, ◌&&◌, ◌||◌, List, [], ◌∷◌, ◌++◌, map, Option, Some, None, refl, sym, ap, ◌∙◌, arith, true≢false}
use Rattle.std.specs.Prelude.{if◌then◌else◌, filter_map}
use Rattle.std.specs.FinMap as fm
use Rattle.std.specs.FinSet as fs
use Rattle.sal_value.specs.declared.name.Name.{Name}
use Rattle.sal_value.specs.declared.name.Name.TheVariants as name
use Rattle.sal_value.specs.declared.name.Authority.{Authority}
use Rattle.sal_value.specs.declared.value.Value.{Value}
use Rattle.sal_value.specs.Spelling.{is_legal}
use Rattle.sal_mail.specs.declared.message.Reply.{Reply}
use Rattle.sal_mail.specs.declared.message.Reply.TheVariants.{Nobody, Tok, Place, Outside}
use Rattle.sal_mail.specs.declared.message.Target.{Target}
use Rattle.sal_mail.specs.declared.message.Target.TheVariants as target
use Rattle.sal_mail.specs.declared.message.Message.{Message}
use Rattle.sal_mail.specs.declared.message.Join.{Join}
use Rattle.std.specs.Coded.{coded×, coded_ℕ}
use Rattle.sal_mail.specs.contracts.effects.Actor.{the_row as actor_row}
use Rattle.sal_mail.specs.declared.effects.Actor.{Actor}
use Rattle.sal_mail.specs.declared.effects.Creation.{Creation}
use Rattle.sal_mail.specs.Message.{is_ready}
use Rattle.sal_handler.specs.Calls.{Call, Meaning}
use Rattle.sal_handler.specs.declared.turn.Outcome.{Outcome}
use Rattle.sal_source.specs.declared.state.Setup.{Setup}
use Rattle.sal_source.specs.declared.state.Step.TheVariants.{Handle, Print, Bind, Refuse, Post}
use Rattle.sal_source.specs.Table.{TableKey, key_cmp, key_eq, table_of, write, total}
use Rattle.sal_source.specs.Keys.{name_key, made_key, message_key, join_key, creation_key, actor_key}
use Rattle.sal_source.specs.code.Lists.{first_at_key}
use Rattle.sal_source.specs.Configuration.{Waiting, Configuration}
use Rattle.sal_source.specs.Give.{DueReply, resolve, give_one, give_to, replies_if_legal, replies_from, join_replies, join_after_value, settle_all}
use Rattle.sal_source.specs.Step as s
use Rattle.sal_source.proofs.Tables.{some_is, get-table_of}
use Rattle.sal_source.proofs.Same.{Test, test_of}
use Rattle.sal_source.proofs.Fuel.{give_first, settled_nil}
use Rattle.sal_source.proofs.Listing.{write_nothing}
use Rattle.sal_pieces.specs.Pieces.{Piece, Thing, ActorThing, MessageThing, JoinThing, CreationThing, ReplyThing, things}
use Rattle.sal_pieces.specs.Image.{History, actor_in, message_in, join_in, creation_in, reply_in, waiting_before_replies, waiting_after_replies, image_of}
use Rattle.sal_pieces.specs.Entering.{count_strays, count_joins}
use Rattle.sal_pieces.specs.Steps.{names_given, count_untidy}
use Rattle.sal_pieces.specs.Final.{count_actors, count_takers, count_owners, prospects, AreStill, StillPiecesAreFinal}
use Rattle.sal_pieces.proofs.Entering.{none_strays, map_table, resolved_key}
use Rattle.sal_pieces.proofs.Placing.{none_found}
use Rattle.sal_pieces.proofs.Passing.{passes, gives_none}
use Rattle.sal_pieces.proofs.Order.{some_apart, absent, few_of, actor_one}
use Rattle.sal_pieces.proofs.Tidy.{clean_things}

-- ---- replies whose owners don't stand

same_choice : {A : Type 0} (b : Bool) (x y : A) → x ≡ y → cond b x y ≡ y
same_choice true x y e = e
same_choice false x y e = refl

module _ (ps : List Piece) (tidy : total count_untidy ps ≡ 0) where
  abbrev ts : List Thing
  ts = things ps

  -- such a reply changes nothing of what waits
  stays : (g : DueReply) → count_owners g.0 ts ≡ 0 → give_one g (waiting_before_replies ts) ≡ waiting_before_replies ts
  unfolding waiting_before_replies
  stays (Nobody, v) e = same_choice (is_legal v) (waiting_before_replies ts) (waiting_before_replies ts) refl
  stays (Outside number, v) e = same_choice (is_legal v) (waiting_before_replies ts) (waiting_before_replies ts) refl
  stays (Tok o n, v) e =
      let clean = clean_things o ps tidy e in
      let same = map_table (resolve o n v) (resolved_key o n v) (filter_map message_in ts) ∙ ap (table_of message_key) (none_strays o n v ts clean.0) in
      same_choice (is_legal v) (give_to (Tok o n) v (waiting_before_replies ts)) (waiting_before_replies ts) (λ i. record { messages = same i; joins = table_of join_key (filter_map join_in ts) })
  stays (Place o j at, v) e =
      let clean = clean_things o ps tidy e in
      let joins = table_of join_key (filter_map join_in ts) in
      let none : fm.get joins (made_key o j) ≡ None = get-table_of join_key (filter_map join_in ts) (made_key o j) ∙ none_found o j ts clean.1 in
      let same : write joins (made_key o j) (join_after_value at v (fm.get joins (made_key o j))) ≡ joins =
      ap (λ x. write joins (made_key o j) (join_after_value at v x)) none ∙ write_nothing joins (made_key o j) none in
      same_choice (is_legal v) (give_to (Place o j at) v (waiting_before_replies ts)) (waiting_before_replies ts) (λ i. record { messages = table_of message_key (filter_map message_in ts); joins = same i })

  -- and makes no other due
  makes_none : (g : DueReply) → count_owners g.0 ts ≡ 0 → replies_if_legal g (waiting_before_replies ts) ≡ []
  unfolding waiting_before_replies
  makes_none (Nobody, v) e = same_choice (is_legal v) [] [] refl
  makes_none (Outside number, v) e = same_choice (is_legal v) [] [] refl
  makes_none (Tok o n, v) e = same_choice (is_legal v) [] [] refl
  makes_none (Place o j at, v) e =
      let clean = clean_things o ps tidy e in
      let joins = table_of join_key (filter_map join_in ts) in
      let none : fm.get joins (made_key o j) ≡ None = get-table_of join_key (filter_map join_in ts) (made_key o j) ∙ none_found o j ts clean.1 in
      same_choice (is_legal v) (replies_from (Place o j at) v (waiting_before_replies ts)) [] (ap (join_replies at v) none)

  module _ (authorities : List Authority) (given : fs.FinSet key_cmp) where
    abbrev Still : List Thing → Type 0
    Still us = total (prospects authorities given ts) us ≡ 0

    settle_nothing : (us : List Thing) → Still us → settle_all (filter_map reply_in us) (waiting_before_replies ts) ≡ waiting_before_replies ts
    settle_nothing [] e = settled_nil (waiting_before_replies ts)
    settle_nothing (ActorThing a ∷ us) e = settle_nothing us (omega (arith, e))
    settle_nothing (MessageThing m ∷ us) e = settle_nothing us (omega (arith, e))
    settle_nothing (JoinThing j ∷ us) e = settle_nothing us (omega (arith, e))
    settle_nothing (CreationThing x ∷ us) e = settle_nothing us (omega (arith, e))
    settle_nothing (ReplyThing g ∷ us) e =
        let none : count_owners g.0 ts ≡ 0 = omega (arith, e) in
        give_first g (filter_map reply_in us) (waiting_before_replies ts)
        ∙ (λ i. settle_all (makes_none g none i ++ filter_map reply_in us) (stays g none i))
        ∙ settle_nothing us (omega (arith, e))

    -- ---- what is found is still

    still_message : (q : TableKey) (us : List Thing) (m : Message) → Still us → first_at_key message_key q (filter_map message_in us) ≡ Some m → prospects authorities given ts (MessageThing m) ≡ 0
    still_message q [] m e found = some_apart found
    still_message q (ActorThing a ∷ us) m e found = still_message q us m (omega (arith, e)) found
    still_message q (JoinThing j ∷ us) m e found = still_message q us m (omega (arith, e)) found
    still_message q (CreationThing x ∷ us) m e found = still_message q us m (omega (arith, e)) found
    still_message q (ReplyThing g ∷ us) m e found = still_message q us m (omega (arith, e)) found
    still_message q (MessageThing n ∷ us) m e found = at (key_eq q (message_key n)) found (still_message q us m (omega (arith, e)))
      where
        here : prospects authorities given ts (MessageThing n) ≡ 0
        here = omega (arith, e)

        at : (b : Bool) → cond b (Some n) (first_at_key message_key q (filter_map message_in us)) ≡ Some m
            → (first_at_key message_key q (filter_map message_in us) ≡ Some m → prospects authorities given ts (MessageThing m) ≡ 0) → prospects authorities given ts (MessageThing m) ≡ 0
        at true f later = ap (λ x. prospects authorities given ts (MessageThing x)) (some_is (sym f)) ∙ here
        at false f later = later f

    still_creation : (q : TableKey) (us : List Thing) (x : Name × Creation) → Still us → first_at_key creation_key q (filter_map creation_in us) ≡ Some x → prospects authorities given ts (CreationThing x) ≡ 0
    still_creation q [] x e found = some_apart found
    still_creation q (ActorThing a ∷ us) x e found = still_creation q us x (omega (arith, e)) found
    still_creation q (JoinThing j ∷ us) x e found = still_creation q us x (omega (arith, e)) found
    still_creation q (MessageThing m ∷ us) x e found = still_creation q us x (omega (arith, e)) found
    still_creation q (ReplyThing g ∷ us) x e found = still_creation q us x (omega (arith, e)) found
    still_creation q (CreationThing y ∷ us) x e found = at (key_eq q (creation_key y)) found (still_creation q us x (omega (arith, e)))
      where
        here : prospects authorities given ts (CreationThing y) ≡ 0
        here = omega (arith, e)

        at : (b : Bool) → cond b (Some y) (first_at_key creation_key q (filter_map creation_in us)) ≡ Some x
            → (first_at_key creation_key q (filter_map creation_in us) ≡ Some x → prospects authorities given ts (CreationThing x) ≡ 0) → prospects authorities given ts (CreationThing x) ≡ 0
        at true f later = ap (λ z. prospects authorities given ts (CreationThing z)) (some_is (sym f)) ∙ here
        at false f later = later f

-- ---- steps

actor_test : Test (Actor × ℕ)
actor_test = test_of (coded× actor_row.coded coded_ℕ)

no_actor : (n : Name) (ts : List Thing) → count_actors n ts ≡ 0 → fm.get (table_of actor_key (filter_map actor_in ts)) (name_key n) ≡ None
no_actor n ts e =
    get-table_of actor_key (filter_map actor_in ts) (name_key n)
    ∙ absent actor_key actor_test (name_key n) (filter_map actor_in ts) (few_of actor_key actor_in Rattle.sal_pieces.specs.Once.actor_key_in actor_one ts (name_key n) ∙ e)

neither : (b c : Bool) → ◌≡◌ {A = ℕ} (if b || c then 1 else 0) 0 → (b ≡ false) × (c ≡ false)
neither true c e = absurd (omega (arith, e))
neither false true e = absurd (omega (arith, e))
neither false false e = (refl, refl)

module _ (setup : Setup) (bound : List TableKey) (ps : List Piece) (w : History) (tidy : total count_untidy ps ≡ 0) (still : AreStill setup.authorities bound ps) where
  abbrev us : List Thing
  us = things ps

  abbrev c : Configuration
  c = image_of bound us w

  waiting_is : c.waiting ≡ waiting_before_replies us
  unfolding image_of
  waiting_is = settle_nothing ps tidy setup.authorities (names_given bound ps) us still

  -- a pending message is one that nothing takes
  pending_is : (maker : Name) (serial : ℕ) → s.pending maker serial c ≡ first_at_key message_key (made_key maker serial) (filter_map message_in us)
  unfolding waiting_before_replies
  pending_is maker serial = ap (λ (x : Waiting). fm.get x.messages (made_key maker serial)) waiting_is ∙ get-table_of message_key (filter_map message_in us) (made_key maker serial)

  none_takes : (t : Target) (maker : Name) (serial : ℕ) (fresh : List Name) (outcomes : Call → Outcome) (m : Message) → count_takers t us ≡ 0
      → s.handle_if_actor outcomes maker serial fresh m (s.actor_at t c) (s.drop_message maker serial c) ≡ None
  unfolding image_of
  none_takes target.Output maker serial fresh outcomes m e = refl
  none_takes (target.Actor n) maker serial fresh outcomes m e =
      ap (λ a. s.handle_if_actor outcomes maker serial fresh m a (s.drop_message maker serial c)) (no_actor n us e)

  none_prints : (t : Target) (maker : Name) (serial : ℕ) (m : Message) → count_takers t us ≡ 0 → s.print_to t m (s.drop_message maker serial c) ≡ None
  none_prints target.Output maker serial m e = absurd (omega (arith, e))
  none_prints (target.Actor n) maker serial m e = refl

  if_taken : (f : Message → Option Configuration) (o : Option Message) → ((m : Message) → o ≡ Some m → prospects setup.authorities (names_given bound ps) us (MessageThing m) ≡ 0)
      → ((m : Message) → count_takers m.target us ≡ 0 → f m ≡ None) → s.if_ready o f ≡ None
  if_taken f None idle none = refl
  if_taken f (Some m) idle none = at (is_ready m) (idle m refl)
    where
      at : (b : Bool) → ◌≡◌ {A = ℕ} (if b then count_takers m.target us else 0) 0 → (if b then f m else None) ≡ None
      at true e = none m e
      at false e = refl

  no_message : (maker : Name) (serial : ℕ) (f : Message → Option Configuration) → ((m : Message) → count_takers m.target us ≡ 0 → f m ≡ None) → s.if_ready (s.pending maker serial c) f ≡ None
  no_message maker serial f none =
      ap (λ o. s.if_ready o f) (pending_is maker serial)
      ∙ if_taken f (first_at_key message_key (made_key maker serial) (filter_map message_in us))
      (λ m found. still_message ps tidy setup.authorities (names_given bound ps) (made_key maker serial) us m still found) none

  no_bind : (maker : Name) (serial : ℕ) (o : Option (Name × Creation)) → ((x : Name × Creation) → o ≡ Some x → prospects setup.authorities (names_given bound ps) us (CreationThing x) ≡ 0)
      → (s.bind setup.authorities maker serial o c ≡ None) × (s.refuse maker serial o c ≡ None)
  unfolding image_of
  no_bind maker serial None idle = (refl, refl)
  no_bind maker serial (Some x) idle =
      let n = neither (s.is_served setup.authorities x.1.name) (fs.contains (names_given bound ps) (name_key (name.Uan x.1.name))) (idle x refl) in (
        ap (λ b. if b && not (s.is_given x.1 c) then Some (s.bind_creation x.1 (s.drop_creation maker serial c)) else None) n.0,
        ap (λ b. if b then Some (s.add_fault Rattle.sal_mail.specs.declared.fault.FaultKind.TheVariants.NameTaken maker serial (s.drop_creation maker serial c)) else None) n.1,
      )

  creation_is : (maker : Name) (serial : ℕ) → fm.get c.creations (made_key maker serial) ≡ first_at_key creation_key (made_key maker serial) (filter_map creation_in us)
  unfolding image_of
  creation_is maker serial = get-table_of creation_key (filter_map creation_in us) (made_key maker serial)

  no_creation : (maker : Name) (serial : ℕ) → (s.bind_step setup.authorities maker serial c ≡ None) × (s.refuse_step maker serial c ≡ None)
  no_creation maker serial =
      let o = first_at_key creation_key (made_key maker serial) (filter_map creation_in us) in
      let none = no_bind maker serial o (λ x found. still_creation ps tidy setup.authorities (names_given bound ps) (made_key maker serial) us x still found) in (
        ap (λ x. s.bind setup.authorities maker serial x c) (creation_is maker serial) ∙ none.0,
        ap (λ x. s.refuse maker serial x c) (creation_is maker serial) ∙ none.1,
      )

pub are_final : StillPiecesAreFinal
unfolding s.step
are_final p setup bound ps w tidy still (Handle maker serial fresh) e =
    no_message setup bound ps w tidy still maker serial (λ m. s.handle_message p.outcome maker serial fresh m (image_of bound (things ps) w))
    (λ m none. none_takes setup bound ps w tidy still m.target maker serial fresh p.outcome m none)
are_final p setup bound ps w tidy still (Print maker serial) e =
    no_message setup bound ps w tidy still maker serial (λ m. s.print_message maker serial m (image_of bound (things ps) w))
    (λ m none. none_prints setup bound ps w tidy still m.target maker serial m none)
are_final p setup bound ps w tidy still (Bind maker serial) e = (no_creation setup bound ps w tidy still maker serial).0
are_final p setup bound ps w tidy still (Refuse maker serial) e = (no_creation setup bound ps w tidy still maker serial).1
are_final p setup bound ps w tidy still (Post number to behavior handler args) e = absurd (true≢false e)
