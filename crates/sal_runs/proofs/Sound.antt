-- Configurations of runs are sound.
use Rattle.std.proofs.Common.{◌≡◌, ℕ, zero, suc, Bool, true, false, cond, not, ◌&&◌, List, [], ◌∷◌, ◌++◌, length, map, Option, Some, None, refl, sym, subst}
use Rattle.std.specs.Prelude.{if◌then◌else◌, nat_eq, nat_lt, filter_map}
use Rattle.std.specs.List.{list_all}
use Rattle.std.specs.FinMap as fm
use Rattle.std.specs.FinSet as fs
use Rattle.std.proofs.lemmas.Bool.{eqb-true}
use Rattle.sal_value.specs.declared.name.Name.{Name}
use Rattle.sal_value.specs.declared.name.Name.TheVariants as name
use Rattle.sal_value.specs.declared.name.Uan.{Uan}
use Rattle.sal_value.specs.declared.name.Authority.{Authority}
use Rattle.sal_value.specs.declared.value.Value.{Value}
use Rattle.sal_value.specs.declared.value.Value.TheVariants.{Array}
use Rattle.sal_value.specs.Names.{is_uan}
use Rattle.sal_value.specs.Spelling.{name_is_spelled, is_legal}
use Rattle.sal_ast.specs.declared.program.Program.{Program}
use Rattle.sal_mail.specs.declared.message.Piece.{Piece}
use Rattle.sal_mail.specs.declared.message.Piece.TheVariants.{Known, Token}
use Rattle.sal_mail.specs.declared.message.Reply.{Reply}
use Rattle.sal_mail.specs.declared.message.Reply.TheVariants.{Nobody, Tok, Place, Outside}
use Rattle.sal_mail.specs.declared.message.Message.{Message}
use Rattle.sal_mail.specs.declared.message.Join.{Join}
use Rattle.sal_mail.specs.declared.effects.Actor.{Actor}
use Rattle.sal_mail.specs.declared.effects.Creation.{Creation}
use Rattle.sal_mail.specs.declared.effects.Effects.{Effects}
use Rattle.sal_mail.specs.Message.{with_reply, piece_with_reply, known_value, without_delay, fill_slot, with_slot, is_full}
use Rattle.sal_envelope.specs.Spelling.{reply_is_spelled}
use Rattle.sal_handler.specs.Fits.{meaning_of}
use Rattle.sal_handler.specs.Handler.{begin}
use Rattle.sal_handler.specs.declared.turn.Began.{Began}
use Rattle.sal_handler.specs.declared.turn.Began.TheVariants as began
use Rattle.sal_handler.specs.WellFormed.{EachOf, Legal, IsLegalPiece, IsOldReply, IsSoundCall, IsWellFormed, IsOrderly, program_sizes}
use Rattle.sal_handler.proofs.Addresses.{each_append, each_more}
use Rattle.sal_handler.proofs.FairCalls.{handlers_orderly, handlers_fair}
use Rattle.sal_effects.specs.Slots.{IsEmpty, ServesSlots}
use Rattle.sal_effects.specs.Spelled.{IsLocator, MessageIsSpelled, IsSpelled}
use Rattle.sal_effects.proofs.Serving.{serve_slots}
use Rattle.sal_effects.proofs.Spelling.{spell_all, begin_legally}
use Rattle.sal_source.specs.declared.state.Setup.{Setup}
use Rattle.sal_source.specs.Table.{TableKey, key_eq, Table}
use Rattle.sal_source.specs.Keys.{name_key, made_key, message_key, actor_key}
use Rattle.sal_source.specs.Configuration.{Waiting, Configuration, first_by, start_actor, act_message}
use Rattle.sal_source.specs.Give.{DueReply, resolve, owned_join_with_slot, join_after_value, give_to, give_one, outside_answers, replies_if_legal, answers_if_legal, settle, settle_answers, settle_bound, settle_all_answers}
use Rattle.sal_source.specs.Posts.{fits_post, may_be_posted, holds_universal, post_message}
use Rattle.sal_source.specs.Step as s
use Rattle.sal_source.proofs.Installing.{old_reply}
use Rattle.sal_source.proofs.Keeping.{named, split}
use Rattle.sal_source.proofs.Once.{Each, each_written, each_mapped, each_none}
use Rattle.sal_runs.specs.Sound.{GivenNamesAreActors, IsServed, BoundNamesAreServed, ActorIsSound, MessageIsSound, SlotIsSound, JoinIsSound, CreationIsSound, RunsStaySound}
use Rattle.sal_runs.proofs.Invariants.{IsHandled, Invariant, plays, each_of_one}
use Rattle.sal_runs.proofs.Steps.{some_is}

-- ---- names that are given

pub no_invariant : (p : Program) (setup : Setup) → Invariant p setup (λ c. Unit {0})
no_invariant p setup = record {
  dropped = λ maker serial c h. tt;
  failed = λ kind maker serial c h. tt;
  worked = λ c maker serial m a fresh e k h. tt;
  given = λ gs c h. tt;
  printed = λ text c h. tt;
  unmade = λ maker serial c h. tt;
  bound = λ maker serial x c k f q g h. tt;
  posted = λ number to behavior handler args c q h. tt;
}

pub names_are_actors : GivenNamesAreActors
names_are_actors p setup ss c is =
    let kept = (plays p setup (λ c. Unit {0}) (no_invariant p setup) ss c tt is).kept in
    record { given = kept.named; keyed = λ key a found. (kept.keyed.at key a found).keyed }

-- ---- new actors are anonymous

fresh_anonymous : (given : fs.FinSet _) (names : List Name) → list_all (s.is_new given) names ≡ true → list_all s.is_anonymous names ≡ true
fresh_anonymous given [] e = refl
fresh_anonymous given (n ∷ ns) e =
    let p = split (s.is_new given n) (list_all (s.is_new given) ns) e in
    let q = split (s.is_anonymous n) (not (fs.contains given (name_key n))) p.0 in
    both (s.is_anonymous n) (list_all s.is_anonymous ns) q.0 (fresh_anonymous given ns p.1)
  where
    both : (a b : Bool) → a ≡ true → b ≡ true → a && b ≡ true
    both true true p q = refl
    both true false p q = absurd cc
    both false b p q = absurd cc

module _ (p : Program) (c : Configuration) (maker : Name) (serial : ℕ) (m : Message) (a : Actor × ℕ) (fresh : List Name) (e : Effects) (k : IsHandled p c maker serial m a fresh e) where
  fits_parts : (nat_eq (length fresh) (length e.actors) ≡ true) × (s.are_fresh fresh c.given ≡ true)
  fits_parts = split (nat_eq (length fresh) (length e.actors)) (s.are_fresh fresh c.given) k.fits

  anonymous : list_all s.is_anonymous fresh ≡ true
  anonymous = fresh_anonymous c.given fresh (split (list_all (s.is_new c.given) fresh) (s.are_different fresh) fits_parts.1).0

  pub old : IsOldReply a.0.name a.1 m.reply
  old = old_reply c.actors c.posted a k.actor k.keyed.actor m.reply (k.kept.waits.messages.at (made_key maker serial) m k.pending).owed

  pub order : IsOrderly (program_sizes p) (s.call_of m a fresh) e
  order = handlers_orderly p (s.call_of m a fresh) e old k.did

  new_anonymous : EachOf (λ (x : Actor). s.is_anonymous x.name ≡ true) e.actors
  new_anonymous = named s.is_anonymous [] fresh e.actors order.names (eqb-true (length fresh) (length e.actors) fits_parts.0) anonymous

-- ---- names that are served

abbrev Actors : Type 0
Actors = Table (Actor × ℕ)

anonymous_served : (authorities : List Authority) (n : Name) → s.is_anonymous n ≡ true → IsServed authorities n
anonymous_served authorities (name.Anon theatre number) e = tt
anonymous_served authorities (name.Uan u) e = absurd cc
anonymous_served authorities (name.Outside number) e = tt

-- new actors, of each of which it holds
each_new : (Q : Actor → Type 0) (es : List Actor) (t : Actors) → EachOf Q es → Each (λ key (x : Actor × ℕ). Q x.0) t → Each (λ key (x : Actor × ℕ). Q x.0) (s.put_actors es t)
each_new Q [] t f h = h
each_new Q (x ∷ xs) t f h = each_written (λ key (y : Actor × ℕ). Q y.0) (s.put_actors xs t) (name_key x.name) (Some (x, 0)) (each_new Q xs t f.1 h) (λ y is. let same : (x, 0) ≡ y = some_is is in subst (λ (z : Actor × ℕ). Q z.0) same f.0)

module _ (setup : Setup) where
  abbrev Served : Actor → Type 0
  Served a = IsServed setup.authorities a.name

  abbrev AllServed : Configuration → Type 0
  AllServed c = Each (λ key (x : Actor × ℕ). Served x.0) c.actors

  serving : (p : Program) → Invariant p setup AllServed
  serving p = record {
    dropped = λ maker serial c h. h;
    failed = λ kind maker serial c h. h;
    worked = λ c maker serial m a fresh e k h.
        each_written (λ key (x : Actor × ℕ). Served x.0) (s.put_actors e.actors c.actors) (name_key a.0.name) (Some (record a.0 { fields = e.fields }, e.serial))
        (each_new Served e.actors c.actors (each_more (λ (x : Actor). s.is_anonymous x.name ≡ true) Served e.actors (λ x q. anonymous_served setup.authorities x.name q) (new_anonymous p c maker serial m a fresh e k)) h)
        (λ x is. let same : (record a.0 { fields = e.fields }, e.serial) ≡ x = some_is is in subst (λ (z : Actor × ℕ). Served z.0) same (h.at (name_key a.0.name) a k.actor));
    given = λ gs c h. h;
    printed = λ text c h. h;
    unmade = λ maker serial c h. h;
    bound = λ maker serial x c k f q g h.
        each_written (λ key (x : Actor × ℕ). Served x.0) c.actors (name_key (name.Uan x.1.name)) (Some (s.bound_actor x.1, 0)) h
        (λ y is. let same : (s.bound_actor x.1, 0) ≡ y = some_is is in subst (λ (z : Actor × ℕ). Served z.0) same q);
    posted = λ number to behavior handler args c q h. h;
  }

  first_served : (words : List Value) (b : Began) → AllServed (first_by words b)
  first_served words (began.Actor behavior handler fields) = each_of_one (λ key (x : Actor × ℕ). Served x.0) actor_key (start_actor behavior fields) tt
  first_served words (began.Trap kind) = each_none (λ key (x : Actor × ℕ). Served x.0)

pub bound_are_served : BoundNamesAreServed
bound_are_served p setup ss c is = (plays p setup (AllServed setup) (serving setup p) ss c (first_served setup setup.words (meaning_of p).begin) is).here.at

-- ---- replies are given

piece_sound : (number : ℕ) (value : Value) → Legal value → (x : Piece) → IsLegalPiece x → IsLegalPiece (piece_with_reply number value x)
piece_sound number value l (Known v) h = h
piece_sound number value l (Token n) h = at (nat_eq n number)
  where
    at : (b : Bool) → IsLegalPiece (cond b (Known value) (Token n))
    at true = l
    at false = tt

pieces_sound : (number : ℕ) (value : Value) → Legal value → (xs : List Piece) → EachOf IsLegalPiece xs → EachOf IsLegalPiece (map (piece_with_reply number value) xs)
pieces_sound number value l [] h = tt
pieces_sound number value l (x ∷ xs) h = (piece_sound number value l x h.0, pieces_sound number value l xs h.1)

replied_sound : (number : ℕ) (value : Value) → Legal value → (m : Message) → MessageIsSound m → MessageIsSound (with_reply number value m)
replied_sound number value l m h = record { spelled = record { maker = h.spelled.maker; target = h.spelled.target; reply = h.spelled.reply }; args = pieces_sound number value l m.args h.args }

resolved_sound : (maker : Name) (number : ℕ) (value : Value) → Legal value → (m : Message) → MessageIsSound m → MessageIsSound (resolve maker number value m)
resolved_sound maker number value l m h = at (key_eq (name_key maker) (name_key m.maker))
  where
    at : (b : Bool) → MessageIsSound (cond b (with_reply number value m) m)
    at true = replied_sound number value l m h
    at false = h

slot_filled : (at : ℕ) (value : Value) → Legal value → (xs : List (Option Value)) → EachOf SlotIsSound xs → EachOf SlotIsSound (fill_slot at value xs)
slot_filled at value l [] h = tt
slot_filled zero value l (None ∷ xs) h = (l, h.1)
slot_filled zero value l (Some v ∷ xs) h = h
slot_filled (suc at) value l (x ∷ xs) h = (h.0, slot_filled at value l xs h.1)

abbrev OfMessage : TableKey → Message → Type 0
OfMessage key m = MessageIsSound m

abbrev OfJoin : TableKey → Name × Join → Type 0
OfJoin key j = JoinIsSound j

-- what waits is sound
pub record WaitsSoundly (w : Waiting) : Type 0 where
  pub messages : Each OfMessage w.messages
  pub joins : Each OfJoin w.joins

after_value : (at : ℕ) (value : Value) → Legal value → (o : Option (Name × Join)) → ((j : Name × Join) → o ≡ Some j → JoinIsSound j) → (x : Name × Join) → join_after_value at value o ≡ Some x → JoinIsSound x
after_value at value l None h x is = absurd cc
after_value at value l (Some j) h x is = by (is_full (with_slot at value j.1)) is
  where
    it : JoinIsSound j
    it = h j refl

    by : (b : Bool) → cond b None (Some (owned_join_with_slot at value j)) ≡ Some x → JoinIsSound x
    by true is = absurd cc
    by false is = subst JoinIsSound (some_is is) (record { maker = it.maker; reply = it.reply; slots = slot_filled at value l j.1.places it.slots })

given_sound : (r : Reply) (value : Value) → Legal value → (w : Waiting) → WaitsSoundly w → WaitsSoundly (give_to r value w)
given_sound Nobody value l w h = h
given_sound (Outside number) value l w h = h
given_sound (Tok maker number) value l w h = record { messages = each_mapped OfMessage w.messages (resolve maker number value) (λ key m k. resolved_sound maker number value l m k) h.messages; joins = h.joins }
given_sound (Place maker join at) value l w h = record {
  messages = h.messages;
  joins = each_written OfJoin w.joins (made_key maker join) (join_after_value at value (fm.get w.joins (made_key maker join))) h.joins (after_value at value l (fm.get w.joins (made_key maker join)) (λ j is. h.joins.at (made_key maker join) j is));
}

one_sound : (g : DueReply) (w : Waiting) → WaitsSoundly w → WaitsSoundly (give_one g w)
one_sound g w h = at (is_legal g.1) refl
  where
    at : (b : Bool) → is_legal g.1 ≡ b → WaitsSoundly (cond b (give_to g.0 g.1 w) w)
    at true l = given_sound g.0 g.1 l w h
    at false l = h

settle_sound : (n : ℕ) (gs : List DueReply) (w : Waiting) → WaitsSoundly w → WaitsSoundly (settle n gs w)
unfolding settle
settle_sound zero gs w h = h
settle_sound (suc n) [] w h = h
settle_sound (suc n) (g ∷ gs) w h = settle_sound n (replies_if_legal g w ++ gs) (give_one g w) (one_sound g w h)

abbrev AnswerIsSound : ℕ × Value → Type 0
AnswerIsSound a = Legal a.1

outside_sound : (r : Reply) (value : Value) → Legal value → EachOf AnswerIsSound (outside_answers r value)
outside_sound Nobody value l = tt
outside_sound (Outside number) value l = (l, tt)
outside_sound (Tok maker number) value l = tt
outside_sound (Place maker join at) value l = tt

answer_sound : (g : DueReply) → EachOf AnswerIsSound (answers_if_legal g)
answer_sound g = at (is_legal g.1) refl
  where
    at : (b : Bool) → is_legal g.1 ≡ b → EachOf AnswerIsSound (cond b (outside_answers g.0 g.1) [])
    at true l = outside_sound g.0 g.1 l
    at false l = tt

answers_sound : (n : ℕ) (gs : List DueReply) (w : Waiting) → EachOf AnswerIsSound (settle_answers n gs w)
unfolding settle_answers
answers_sound zero gs w = tt
answers_sound (suc n) [] w = tt
answers_sound (suc n) (g ∷ gs) w = each_append AnswerIsSound (answers_if_legal g) (settle_answers n (replies_if_legal g w ++ gs) (give_one g w)) (answer_sound g) (answers_sound n (replies_if_legal g w ++ gs) (give_one g w))

-- ---- what a handler adds

each_put : (ms : List Message) (t : Table Message) → EachOf MessageIsSound ms → Each OfMessage t → Each OfMessage (s.put_messages ms t)
each_put [] t f h = h
each_put (m ∷ ms) t f h = each_written OfMessage (s.put_messages ms t) (message_key m) (Some (without_delay m)) (each_put ms t f.1 h) (λ x is. subst MessageIsSound (some_is is) (record { spelled = record { maker = f.0.spelled.maker; target = f.0.spelled.target; reply = f.0.spelled.reply }; args = f.0.args }))

each_opened : (maker : Name) (js : List Join) (t : Table (Name × Join)) → EachOf (λ j. JoinIsSound (maker, j)) js → Each OfJoin t → Each OfJoin (s.put_joins maker js t)
each_opened maker [] t f h = h
each_opened maker (j ∷ js) t f h = by (is_full j) (each_opened maker js t f.1 h)
  where
    by : (b : Bool) → Each OfJoin (s.put_joins maker js t) → Each OfJoin (if b then s.put_joins maker js t else s.put_join maker j (s.put_joins maker js t))
    by true rest = rest
    by false rest = each_written OfJoin (s.put_joins maker js t) (made_key maker j.number) (Some (maker, j)) rest (λ x is. subst JoinIsSound (some_is is) f.0)

abbrev OfCreation : TableKey → Name × Creation → Type 0
OfCreation key x = CreationIsSound x

each_created : (maker : Name) (xs : List Creation) (t : Table (Name × Creation)) → EachOf (λ x. CreationIsSound (maker, x)) xs → Each OfCreation t → Each OfCreation (s.put_creations maker xs t)
each_created maker [] t f h = h
each_created maker (x ∷ xs) t f h = each_written OfCreation (s.put_creations maker xs t) (made_key maker x.serial) (Some (maker, x)) (each_created maker xs t f.1 h) (λ y is. subst CreationIsSound (some_is is) f.0)

each_two : {X : Type 0} (P Q R : X → Type 0) (xs : List X) → ((x : X) → P x → Q x → R x) → EachOf P xs → EachOf Q xs → EachOf R xs
each_two P Q R [] f p q = tt
each_two P Q R (x ∷ xs) f p q = (f x p.0 q.0, each_two P Q R xs f p.1 q.1)

known_legal : (xs : List Piece) → EachOf IsLegalPiece xs → EachOf Legal (filter_map known_value xs)
known_legal [] h = tt
known_legal (Known v ∷ xs) h = (h.0, known_legal xs h.1)
known_legal (Token n ∷ xs) h = known_legal xs h.1

anonymous_spelled : (n : Name) → s.is_anonymous n ≡ true → name_is_spelled n ≡ true
unfolding name_is_spelled
anonymous_spelled (name.Anon theatre number) e = refl
anonymous_spelled (name.Uan u) e = absurd cc
anonymous_spelled (name.Outside number) e = refl

all_spelled : (ns : List Name) → list_all s.is_anonymous ns ≡ true → EachOf (λ n. name_is_spelled n ≡ true) ns
all_spelled [] e = tt
all_spelled (n ∷ ns) e = let q = split (s.is_anonymous n) (list_all s.is_anonymous ns) e in (anonymous_spelled n q.0, all_spelled ns q.1)

empty_sound : (xs : List (Option Value)) → EachOf (λ slot. slot ≡ None) xs → EachOf SlotIsSound xs
empty_sound [] h = tt
empty_sound (x ∷ xs) h = (subst SlotIsSound (sym h.0) tt, empty_sound xs h.1)

-- ---- what runs keep

abbrev OfActor : TableKey → Actor × ℕ → Type 0
OfActor key a = ActorIsSound a.0

pub record Sound (c : Configuration) : Type 0 where
  pub actors : Each OfActor c.actors
  pub creations : Each OfCreation c.creations
  pub waits : WaitsSoundly c.waiting
  pub answers : EachOf AnswerIsSound c.answers

dropped_sound : (maker : Name) (serial : ℕ) (c : Configuration) → Sound c → Sound (s.drop_message maker serial c)
dropped_sound maker serial c h = record {
  actors = h.actors;
  creations = h.creations;
  waits = record { messages = each_written OfMessage c.waiting.messages (made_key maker serial) None h.waits.messages (λ x is. absurd cc); joins = h.waits.joins };
  answers = h.answers;
}

worked_sound : (p : Program) (c : Configuration) (maker : Name) (serial : ℕ) (m : Message) (a : Actor × ℕ) (fresh : List Name) (e : Effects) → IsHandled p c maker serial m a fresh e → Sound c → Sound (s.with_effects e a.0 (s.drop_message maker serial c))
worked_sound p c maker serial m a fresh e k h = record {
  actors =
      each_written OfActor (s.put_actors e.actors c.actors) (name_key a.0.name) (Some (record a.0 { fields = e.fields }, e.serial))
      (each_new ActorIsSound e.actors c.actors (each_two (λ (x : Actor). name_is_spelled x.name ≡ true) (λ (x : Actor). EachOf Legal x.fields) ActorIsSound e.actors (λ x n f. record { name = n; fields = f }) spelled.actors legal.actors) h.actors)
      (λ x is. subst (λ (z : Actor × ℕ). ActorIsSound z.0) (some_is is) (record { name = me.name; fields = legal.fields }));
  creations =
      each_created a.0.name e.creations c.creations
      (each_two (λ (x : Creation). (is_uan x.name ≡ true) × IsLocator x.place) (λ (x : Creation). EachOf Legal x.fields) (λ (x : Creation). CreationIsSound (a.0.name, x)) e.creations (λ x n f. record { maker = me.name; name = n.0; place = n.1; fields = f })
      (each_two (λ (x : Creation). is_uan x.name ≡ true) (λ (x : Creation). IsLocator x.place) (λ (x : Creation). (is_uan x.name ≡ true) × IsLocator x.place) e.creations (λ x n l. (n, l)) spelled.creations spelled.places) legal.creations) h.creations;
  waits = record {
    messages = each_put e.messages left.waiting.messages (each_two MessageIsSpelled (λ (x : Message). EachOf IsLegalPiece x.args) MessageIsSound e.messages (λ x n f. record { spelled = n; args = f }) spelled.messages legal.args) (dropped_sound maker serial c h).waits.messages;
    joins = each_opened a.0.name e.joins c.waiting.joins (each_two IsEmpty (λ (j : Join). reply_is_spelled j.reply ≡ true) (λ (j : Join). JoinIsSound (a.0.name, j)) e.joins (λ j z n. record { maker = me.name; reply = n; slots = empty_sound j.places z }) serves.empty spelled.joins) h.waits.joins;
  };
  answers = h.answers;
}
  where
    left : Configuration
    left = s.drop_message maker serial c

    me : ActorIsSound a.0
    me = h.actors.at (name_key a.0.name) a k.actor

    message : MessageIsSound m
    message = h.waits.messages.at (made_key maker serial) m k.pending

    sound : IsSoundCall (s.call_of m a fresh)
    sound = record { fields = me.fields; args = known_legal m.args message.args; reply = old p c maker serial m a fresh e k; me = me.name; names = all_spelled fresh (anonymous p c maker serial m a fresh e k) }

    legal : IsWellFormed (program_sizes p) (s.call_of m a fresh) e
    legal = handlers_fair p (s.call_of m a fresh) e sound k.did

    spelled : IsSpelled e
    spelled = spell_all p (s.call_of m a fresh) e sound message.spelled.reply k.did

    serves : ServesSlots p (s.call_of m a fresh) e
    serves = serve_slots p (s.call_of m a fresh) e (old p c maker serial m a fresh e k) k.did

posted_pieces : (vs : List Value) → list_all may_be_posted vs ≡ true → EachOf IsLegalPiece (map Known vs)
posted_pieces [] e = tt
posted_pieces (v ∷ vs) e =
    let q = split (may_be_posted v) (list_all may_be_posted vs) e in
    ((split (is_legal v) (holds_universal v) q.0).0, posted_pieces vs q.1)

uan_spelled : (u : Uan) → is_uan u ≡ true → name_is_spelled (name.Uan u) ≡ true
unfolding name_is_spelled
uan_spelled u e = e

outside_spelled : (n : ℕ) → name_is_spelled (name.Outside n) ≡ true
unfolding name_is_spelled
outside_spelled n = refl

anon_spelled : (t n : ℕ) → name_is_spelled (name.Anon t n) ≡ true
unfolding name_is_spelled
anon_spelled t n = refl

reply_outside : (n : ℕ) → reply_is_spelled (Outside n) ≡ true
unfolding reply_is_spelled
reply_outside n = refl

reply_nobody : reply_is_spelled Nobody ≡ true
unfolding reply_is_spelled
reply_nobody = refl

posted_sound : (number : ℕ) (to : Uan) (behavior handler : ℕ) (args : List Value) (c : Configuration) → fits_post c.posted number to behavior args ≡ true → Sound c → Sound (s.after_post number to behavior handler args c)
posted_sound number to behavior handler args c q h =
    let a = split (nat_lt c.posted number) (is_uan to && (not (nat_eq behavior 65535) && list_all may_be_posted args)) q in
    let b = split (is_uan to) (not (nat_eq behavior 65535) && list_all may_be_posted args) a.1 in
    let d = split (not (nat_eq behavior 65535)) (list_all may_be_posted args) b.1 in
    record {
      actors = h.actors;
      creations = h.creations;
      waits = record {
        messages = each_put (post_message number to behavior handler args ∷ []) c.waiting.messages (record { spelled = record { maker = outside_spelled number; target = uan_spelled to b.0; reply = reply_outside number }; args = posted_pieces args d.1 }, tt) h.waits.messages;
        joins = h.waits.joins;
      };
      answers = h.answers;
    }

same_sound : (c d : Configuration) → d.actors ≡ c.actors → d.creations ≡ c.creations → d.waiting ≡ c.waiting → d.answers ≡ c.answers → Sound c → Sound d
same_sound c d a x w r h = record {
  actors = subst (Each OfActor) (sym a) h.actors;
  creations = subst (Each OfCreation) (sym x) h.creations;
  waits = subst WaitsSoundly (sym w) h.waits;
  answers = subst (EachOf AnswerIsSound) (sym r) h.answers;
}

unmade_sound : (maker : Name) (serial : ℕ) (c : Configuration) → Sound c → Sound (s.drop_creation maker serial c)
unmade_sound maker serial c h = record { actors = h.actors; creations = each_written OfCreation c.creations (made_key maker serial) None h.creations (λ x is. absurd cc); waits = h.waits; answers = h.answers }

bound_sound : (maker : Name) (serial : ℕ) (x : Name × Creation) (c : Configuration) → fm.get c.creations (made_key maker serial) ≡ Some x → Sound c → Sound (s.bind_creation x.1 (s.drop_creation maker serial c))
bound_sound maker serial x c f h =
    let it = h.creations.at (made_key maker serial) x f in
    let less = unmade_sound maker serial c h in
    record {
      actors = each_written OfActor c.actors (name_key (name.Uan x.1.name)) (Some (s.bound_actor x.1, 0)) h.actors (λ y is. subst (λ (z : Actor × ℕ). ActorIsSound z.0) (some_is is) (record { name = uan_spelled x.1.name it.name; fields = it.fields }));
      creations = less.creations;
      waits = h.waits;
      answers = h.answers;
    }

sounding : (p : Program) (setup : Setup) → Invariant p setup Sound
sounding p setup = record {
  dropped = dropped_sound;
  failed = λ kind maker serial c h. same_sound c (s.add_fault kind maker serial c) refl refl refl refl h;
  worked = λ c maker serial m a fresh e k h. worked_sound p c maker serial m a fresh e k h;
  given = λ gs c h. record { actors = h.actors; creations = h.creations; waits = settle_sound (settle_bound gs c.waiting) gs c.waiting h.waits; answers = each_append AnswerIsSound c.answers (settle_all_answers gs c.waiting) h.answers (answers_sound (settle_bound gs c.waiting) gs c.waiting) };
  printed = λ text c h. same_sound c (s.add_output text c) refl refl refl refl h;
  unmade = unmade_sound;
  bound = λ maker serial x c k f q g h. bound_sound maker serial x c f h;
  posted = posted_sound;
}

first_sound : (p : Program) (words : List Value) → Legal (Array words) → (b : Began) → begin p ≡ b → Sound (first_by words b)
first_sound p words l (began.Trap kind) is = record {
  actors = each_none OfActor;
  creations = each_none OfCreation;
  waits = record { messages = each_none OfMessage; joins = each_none OfJoin };
  answers = tt;
}
first_sound p words l (began.Actor behavior handler fields) is = record {
  actors = each_of_one OfActor actor_key (start_actor behavior fields) (record { name = anon_spelled 0 0; fields = begin_legally p behavior handler fields is });
  creations = each_none OfCreation;
  waits = record {
    messages = each_of_one OfMessage message_key (act_message words behavior handler) (record { spelled = record { maker = outside_spelled 0; target = anon_spelled 0 0; reply = reply_nobody }; args = (l, tt) });
    joins = each_none OfJoin;
  };
  answers = tt;
}

pub stay_sound : RunsStaySound
stay_sound p setup ss c words is =
    let h = (plays p setup Sound (sounding p setup) ss c (first_sound p setup.words words (begin p) refl) is).here in
    record { actors = h.actors.at; creations = h.creations.at; messages = h.waits.messages.at; joins = h.waits.joins.at; answers = h.answers }
