-- Each step keeps a configuration typed: the types of addresses stay, and new addresses get theirs.
use Rattle.std.proofs.Common.{◌≡◌, inl, inr, ℕ, ◌≤◌, ◌<◌, Bool, true, false, ◌&&◌, ◌||◌, not, nat_eq, if◌then◌else◌, List, [], ◌∷◌, length, Option, Some, None, refl, sym, ap, subst, ◌∙◌, arith}
use Rattle.std.specs.Prelude.{nat_le, nat_lt}
use Rattle.std.specs.List.{list_all}
use Rattle.std.proofs.lemmas.Bool.{eqb-true, eq-eqb, le-leb, leb-true, lt-leb, ltb-true}
use Rattle.std.specs.FinMap as fm
use Rattle.std.specs.FinSet as fs
use Rattle.sal_value.specs.declared.name.Name.{Name}
use Rattle.sal_value.specs.declared.name.Name.TheVariants as name
use Rattle.sal_value.specs.declared.name.Uan.{Uan}
use Rattle.sal_value.specs.declared.name.Authority.{Authority}
use Rattle.sal_value.specs.declared.value.Sort.{Sort}
use Rattle.sal_value.specs.declared.value.Value.{Value}
use Rattle.sal_value.specs.declared.value.Value.TheVariants as v
use Rattle.sal_value.specs.Spelling.{name_is_spelled}
use Rattle.sal_value.proofs.Keys.{same_names}
use Rattle.sal_mail.specs.declared.message.Reply.{Reply}
use Rattle.sal_mail.specs.declared.message.Reply.TheVariants.{Nobody, Tok, Place, Outside}
use Rattle.sal_mail.specs.declared.message.Target.{Target}
use Rattle.sal_mail.specs.declared.message.Target.TheVariants as target
use Rattle.sal_mail.specs.declared.message.Message.{Message}
use Rattle.sal_mail.specs.declared.message.Join.{Join}
use Rattle.sal_mail.specs.declared.effects.Actor.{Actor}
use Rattle.sal_mail.specs.declared.effects.Creation.{Creation}
use Rattle.sal_mail.specs.declared.effects.Effects.{Effects}
use Rattle.sal_mail.specs.declared.fault.FaultKind.{FaultKind}
use Rattle.sal_mail.specs.declared.fault.FaultKind.TheVariants.{Trap as Trapped, NoHandler, NameTaken}
use Rattle.sal_mail.specs.Message.{is_ready, is_known, is_none_left, without_delay}
use Rattle.sal_handler.specs.declared.turn.Outcome.{Outcome}
use Rattle.sal_handler.specs.declared.turn.Outcome.TheVariants.{Done, Trap}
use Rattle.sal_handler.specs.Calls.{Call, Meaning}
use Rattle.sal_handler.specs.Fits.{is_migrate}
use Rattle.sal_handler.specs.WellFormed.{EachOf, IsNewReply, IsOldReply, IsOrderly, IsGoodMessage}
use Rattle.sal_handler.proofs.Addresses.{each_append, each_more}
use Rattle.sal_source.specs.declared.state.Setup.{Setup}
use Rattle.sal_source.specs.declared.state.Step.{Step}
use Rattle.sal_source.specs.declared.state.Step.TheVariants.{Handle, Print, Bind, Refuse, Post}
use Rattle.sal_source.specs.Table.{TableKey, Table, key_eq, key_cmp}
use Rattle.sal_source.specs.Keys.{name_key, made_key, message_key}
use Rattle.sal_source.specs.Configuration.{Configuration}
use Rattle.sal_source.specs.Give.{DueReply, give_all, settle_all_answers}
use Rattle.sal_source.specs.Posts.{fits_post, post_message}
use Rattle.sal_source.specs.Step as s
use Rattle.sal_source.specs.Once.{one_if, next_serial}
use Rattle.sal_source.proofs.Tables.{some_is, same_words, words_refl}
use Rattle.sal_source.proofs.Once.{Each}
use Rattle.sal_source.proofs.Keeping.{Actors, IsActor, IsKeyed, IsOwedOld, KeptIn, Grows, each_both, kept_without, named}
use Rattle.sal_source.proofs.Answering.{is_mine}
use Rattle.sal_source.proofs.Installing.{old_reply, before_me, after_me, goes_installed}
use Rattle.sal_types.specs.declared.signature.Signature.{Signature}
use Rattle.sal_fitting.specs.Handlers.{IsCalled, IsTypedCall, OwesNew, AreTyped, HandlersKeepTypes}
use Rattle.sal_fitting.specs.Messages.{IsTypedCallTo, IsTypedTo, IsTypedMessage, IsTypedJoin}
use Rattle.sal_fitting.specs.Signatures.{Signatures, migrate_signature, signature_at, void_sort, are_of_sorts, fits_signature, fits_sorts, Agrees}
use Rattle.sal_fitting.proofs.Pieces.{both, split, known_fit, all_known, message_more, undelayed_typed, null_void}
use Rattle.sal_fitting.proofs.Giving.{Sorts, Owes, Waits, Slots, MessageIn, JoinIn, WaitingIn, GivenIn, AnswerIn, owes_more, waiting_more, join_more, settled_typed, after_typed, arrays_typed, answered_typed, each_one, each_gone, put_messages_each, put_joins_each}

-- the number that the address names is taken
abbrev pub IsTaken : Actors → ℕ → Reply → Type 0
IsTaken actors posted Nobody = Unit {0}
IsTaken actors posted (Tok maker n) = n < next_serial actors posted maker
IsTaken actors posted (Place maker join at) = join < next_serial actors posted maker
IsTaken actors posted (Outside n) = 0 < next_serial actors posted (name.Outside n)

pub record ActorIn (sigs : Signatures) (key : TableKey) (a : Actor × ℕ) : Type 0 where
  pub fields : fits_sorts (sigs.fields a.0.behavior) a.0.fields ≡ true
  pub name : name_is_spelled a.0.name ≡ true

pub record CreationIn (sigs : Signatures) (key : TableKey) (x : Name × Creation) : Type 0 where
  pub fields : fits_sorts (sigs.fields x.1.behavior) x.1.fields ≡ true
  pub name : name_is_spelled (name.Uan x.1.name) ≡ true

-- With these types of addresses, of which only taken ones have any, and those of posts their results.
pub record TypedIn (sigs : Signatures) (Posts : ℕ → Sort → Type 0) (sorts : Sorts) (c : Configuration) : Type 0 where
  pub taken : (r : Reply) (t : Sort) → sorts r ≡ Some t → IsTaken c.actors c.posted r
  pub posts : (n : ℕ) (t : Sort) → sorts (Outside n) ≡ Some t → Posts n t
  pub actors : Each (ActorIn sigs) c.actors
  pub creations : Each (CreationIn sigs) c.creations
  pub waiting : WaitingIn sigs sorts c.waiting
  pub answers : EachOf (AnswerIn sorts) c.answers

-- with some types of addresses
pub record Typed (sigs : Signatures) (Posts : ℕ → Sort → Type 0) (c : Configuration) : Type 0 where
  pub sorts : Sorts
  pub typed : TypedIn sigs Posts sorts c

-- replies of their types were given
give_typed : (sigs : Signatures) (Posts : ℕ → Sort → Type 0) (sorts : Sorts) (gs : List DueReply) (c : Configuration) → EachOf (GivenIn sorts) gs → TypedIn sigs Posts sorts c → Typed sigs Posts (give_all gs c)
give_typed sigs Posts sorts gs c g h = record {
  sorts = sorts;
  typed = record {
    taken = h.taken;
    posts = h.posts;
    actors = h.actors;
    creations = h.creations;
    waiting = settled_typed sigs sorts gs c.waiting g h.waiting;
    answers = each_append (AnswerIn sorts) c.answers (settle_all_answers gs c.waiting) h.answers (after_typed sigs sorts gs c.waiting g h.waiting);
  };
}

answers_more : (sorts sorts' : Sorts) → ((r : Reply) (t : Sort) → sorts r ≡ Some t → sorts' r ≡ Some t) → (xs : List (ℕ × Value)) → EachOf (AnswerIn sorts) xs → EachOf (AnswerIn sorts') xs
answers_more sorts sorts' f xs h = each_more (AnswerIn sorts) (AnswerIn sorts') xs (λ x a. record { sort = a.sort; is = f (Outside x.0) a.sort a.is; fits = a.fits }) h

taken_more : (actors actors' : Actors) (posted posted' : ℕ) → Grows actors posted actors' posted' → (r : Reply) → IsTaken actors posted r → IsTaken actors' posted' r
taken_more actors actors' posted posted' g Nobody h = tt
taken_more actors actors' posted posted' g (Tok maker n) h = omega (arith, h, g maker)
taken_more actors actors' posted posted' g (Place maker join at) h = omega (arith, h, g maker)
taken_more actors actors' posted posted' g (Outside n) h = omega (arith, h, g (name.Outside n))

-- ---- the actor's own new addresses

abbrev is_fresh : Name → ℕ → Reply → Bool
is_fresh me from Nobody = false
is_fresh me from (Outside n) = false
is_fresh me from (Tok maker n) = is_mine me from maker n
is_fresh me from (Place maker join at) = is_mine me from maker join

abbrev extended : Name → ℕ → Sorts → Sorts → Sorts
extended me from new old r = if is_fresh me from r then new r else old r

mine_not : (actors : Actors) (posted : ℕ) (me : Name) (from : ℕ) → next_serial actors posted me ≡ from → (maker : Name) (n : ℕ) → n < next_serial actors posted maker → is_mine me from maker n ≡ false
mine_not actors posted me from next maker n low = at (is_mine me from maker n) refl
  where
    at : (b : Bool) → is_mine me from maker n ≡ b → b ≡ false
    at false e = refl
    at true e =
        let q = split (key_eq (name_key me) (name_key maker)) (nat_le from n) e in
        let same : me ≡ maker = same_names me maker (same_words (name_key me) (name_key maker) q.0) in
        let there : next_serial actors posted maker ≡ from = ap (next_serial actors posted) (sym same) ∙ next in
        absurd (omega (arith, low, there, leb-true from n q.1))

not_fresh : (actors : Actors) (posted : ℕ) (me : Name) (from : ℕ) → next_serial actors posted me ≡ from → (r : Reply) → IsTaken actors posted r → is_fresh me from r ≡ false
not_fresh actors posted me from next Nobody h = refl
not_fresh actors posted me from next (Tok maker n) h = mine_not actors posted me from next maker n h
not_fresh actors posted me from next (Place maker join at) h = mine_not actors posted me from next maker join h
not_fresh actors posted me from next (Outside n) h = refl

mine_is : (me : Name) (from : ℕ) (maker : Name) (n : ℕ) → maker ≡ me → from ≤ n → is_mine me from maker n ≡ true
mine_is me from maker n same low = both (key_eq (name_key me) (name_key maker)) (nat_le from n) (ap (λ z. key_eq (name_key me) (name_key z)) same ∙ words_refl (name_key me)) (le-leb from n low)

fresh_is : (me : Name) (from to : ℕ) (r : Reply) → IsNewReply me from to r → is_fresh me from r ≡ true
fresh_is me from to Nobody h = absurd h
fresh_is me from to (Tok maker n) h = mine_is me from maker n h.0 h.1.0
fresh_is me from to (Place maker join at) h = mine_is me from maker join h.0 h.1.0
fresh_is me from to (Outside n) h = absurd h

new_taken : (actors : Actors) (posted : ℕ) (me : Name) (from to : ℕ) → next_serial actors posted me ≡ to → (r : Reply) → IsNewReply me from to r → IsTaken actors posted r
new_taken actors posted me from to next Nobody h = absurd h
new_taken actors posted me from to next (Tok maker n) h = let there : next_serial actors posted maker ≡ to = ap (next_serial actors posted) h.0 ∙ next in omega (arith, h.1.1, there)
new_taken actors posted me from to next (Place maker join at) h = let there : next_serial actors posted maker ≡ to = ap (next_serial actors posted) h.0 ∙ next in omega (arith, h.1.1, there)
new_taken actors posted me from to next (Outside n) h = absurd h

-- ---- names

anonymous_spelled : (n : Name) → s.is_anonymous n ≡ true → name_is_spelled n ≡ true
unfolding name_is_spelled
anonymous_spelled (name.Anon theatre i) e = refl
anonymous_spelled (name.Uan u) e = absurd cc
anonymous_spelled (name.Outside i) e = refl

new_spelled : (given : fs.FinSet key_cmp) (n : Name) → s.is_new given n ≡ true → name_is_spelled n ≡ true
new_spelled given n e = anonymous_spelled n (split (s.is_anonymous n) (not (fs.contains given (name_key n))) e).0

all_spelled : (given : fs.FinSet key_cmp) (ns : List Name) → list_all (s.is_new given) ns ≡ true → EachOf (λ n. name_is_spelled n ≡ true) ns
all_spelled given [] e = tt
all_spelled given (n ∷ ns) e = let q = split (s.is_new given n) (list_all (s.is_new given) ns) e in (new_spelled given n q.0, all_spelled given ns q.1)

-- ---- what is put

put_actors_each : (Q : TableKey → Actor × ℕ → Type 0) (es : List Actor) (t : Actors) → EachOf (λ x. Q (name_key x.name) (x, 0)) es → Each Q t → Each Q (s.put_actors es t)
put_actors_each Q [] t f e = e
put_actors_each Q (x ∷ es) t f e = each_one Q (s.put_actors es t) (name_key x.name) (x, 0) (put_actors_each Q es t f.1 e) f.0

put_creations_each : (Q : TableKey → Name × Creation → Type 0) (maker : Name) (xs : List Creation) (t : Table (Name × Creation)) → EachOf (λ x. Q (made_key maker x.serial) (maker, x)) xs → Each Q t → Each Q (s.put_creations maker xs t)
put_creations_each Q maker [] t f e = e
put_creations_each Q maker (x ∷ xs) t f e = each_one Q (s.put_creations maker xs t) (made_key maker x.serial) (maker, x) (put_creations_each Q maker xs t f.1 e) f.0

or_left : (a : Bool) → a || false ≡ true → a ≡ true
or_left true e = refl
or_left false e = absurd cc

-- a post is one of these posts
abbrev pub Promise : Signatures → (ℕ → Sort → Type 0) → Step → Type 0
Promise sigs Posts (Post number to behavior handler args) = (g : Signature) → signature_at sigs behavior handler ≡ Some g → Posts number g.result
Promise sigs Posts (Handle m n fresh) = Unit {0}
Promise sigs Posts (Print m n) = Unit {0}
Promise sigs Posts (Bind m n) = Unit {0}
Promise sigs Posts (Refuse m n) = Unit {0}

module _ (p : Meaning) (sigs : Signatures) (sizes : List ℕ) (agrees : Agrees sigs p) (orderly : (call : Call) (e : Effects) → IsOldReply call.me call.serial call.reply → p.outcome call ≡ Done e → IsOrderly sizes call e)
    (keeps : HandlersKeepTypes sigs p.outcome) (Posts : ℕ → Sort → Type 0) (c : Configuration) (kept : KeptIn c) (sorts : Sorts) (typed : TypedIn sigs Posts sorts c) where
  -- ---- a message goes

  module _ (maker : Name) (serial : ℕ) (m : Message) (found : fm.get c.waiting.messages (made_key maker serial) ≡ Some m) (ready : is_ready m ≡ true) where
    abbrev left : Configuration
    left = s.drop_message maker serial c

    kept_left : KeptIn left
    kept_left = kept_without c.actors c.given c.posted c.waiting (made_key maker serial) kept

    waiting_left : WaitingIn sigs sorts left.waiting
    waiting_left = record { messages = each_gone (MessageIn sigs sorts) c.waiting.messages (made_key maker serial) typed.waiting.messages; joins = typed.waiting.joins }

    owed : IsOwedOld c.actors c.posted m.reply
    owed = (kept.waits.messages.at (made_key maker serial) m found).owed

    faulted : (fresh : List Name) (kind : FaultKind) (d : Configuration) → s.if_no_names fresh (s.add_fault kind maker serial left) ≡ Some d → Typed sigs Posts d
    faulted [] kind d e = let same : s.add_fault kind maker serial left ≡ d = cc in subst (Typed sigs Posts) same (record { sorts = sorts; typed = record { taken = typed.taken; posts = typed.posts; actors = typed.actors; creations = typed.creations; waiting = waiting_left; answers = typed.answers } })
    faulted (n ∷ ns) kind d e = absurd cc

    printed : (t : Target) → IsTypedTo sigs (Owes sorts) (Waits sorts m.maker) t m → (d : Configuration) → s.print_to t m left ≡ Some d → Typed sigs Posts d
    printed (target.Actor n) h d e = absurd cc
    printed target.Output h d e =
        let gs : List DueReply = (m.reply, v.Null) ∷ [] in
        let same : give_all gs (s.add_output (s.message_text m) left) ≡ d = cc in
        subst (Typed sigs Posts) same (give_typed sigs Posts sorts gs (s.add_output (s.message_text m) left) (record { sort = void_sort; owes = h.reply; belongs = null_void }, tt) (record { taken = typed.taken; posts = typed.posts; actors = typed.actors; creations = typed.creations; waiting = waiting_left; answers = typed.answers }))

    -- ---- it is handled

    module _ (a : Actor × ℕ) (at : fm.get c.actors (name_key a.0.name) ≡ Some a) (actor : IsActor a.0.name) (fresh : List Name) (h : IsTypedCallTo sigs (Owes sorts) (Waits sorts m.maker) m) (u : s.understands a.0 m ≡ true)
        (y : Effects) (is : p.outcome (s.call_of m a fresh) ≡ Done y) (fits : s.fits_fresh fresh y left ≡ true) where
      abbrev me : Name
      me = a.0.name

      abbrev g : Signature
      g = h.signature

      abbrev call : Call
      call = s.call_of m a fresh

      abbrev after : Configuration
      after = s.with_effects y a.0 left

      old : IsOldReply me a.1 m.reply
      old = old_reply c.actors c.posted a at actor m.reply owed

      order : IsOrderly sizes call y
      order = orderly call y old is

      before : next_serial c.actors c.posted me ≡ a.1
      before = before_me left kept_left m a fresh y sizes at actor owed order fits

      now : next_serial after.actors after.posted me ≡ y.serial
      now = after_me left kept_left m a fresh y sizes at actor owed order fits

      grows : Grows c.actors c.posted after.actors after.posted
      grows = (goes_installed left kept_left m a fresh y sizes at actor owed order fits).grows

      called : (b : Bool) → is_migrate m.behavior m.handler ≡ b → (if b then Some migrate_signature else sigs.handler m.behavior m.handler) ≡ Some g → (nat_eq m.behavior a.0.behavior || b) ≡ true → IsCalled sigs g a.0.behavior m.handler
      called true e i w = inl (eqb-true m.handler 65535 (split (nat_eq m.behavior 65535) (nat_eq m.handler 65535) e).1, some_is i)
      called false e i w = inr (subst (λ z. sigs.handler z m.handler ≡ Some g) (eqb-true m.behavior a.0.behavior (or_left (nat_eq m.behavior a.0.behavior) w)) i)

      all_new : list_all (s.is_new c.given) fresh ≡ true
      all_new = (split (list_all (s.is_new c.given) fresh) (s.are_different fresh) (split (nat_eq (length fresh) (length y.actors)) _ fits).1).0

      as_many : length fresh ≡ length y.actors
      as_many = eqb-true (length fresh) (length y.actors) (split (nat_eq (length fresh) (length y.actors)) _ fits).0

      it : ActorIn sigs (name_key me) a
      it = typed.actors.at (name_key me) a at

      call_typed : IsTypedCall sigs g call
      call_typed = record {
        signature = called (is_migrate m.behavior m.handler) refl h.is u;
        args = known_fit (Waits sorts m.maker) g.params m.args h.args (split (list_all is_known m.args) (is_none_left m.after) ready).0;
        fields = it.fields;
        reply = old;
        me = it.name;
        names = all_spelled c.given fresh all_new;
      }

      k : AreTyped sigs g call y
      k = keeps g call y call_typed is

      abbrev later : Sorts
      later = extended me a.1 k.sorts sorts

      stays : (r : Reply) (t : Sort) → sorts r ≡ Some t → later r ≡ Some t
      stays r t e = ap (λ b. if b then k.sorts r else sorts r) (not_fresh c.actors c.posted me a.1 before r (typed.taken r t e)) ∙ e

      comes : (r : Reply) (t : Sort) → k.sorts r ≡ Some t → later r ≡ Some t
      comes r t e = ap (λ b. if b then k.sorts r else sorts r) (fresh_is me a.1 y.serial r (k.new r t e)) ∙ e

      taken : (r : Reply) (t : Sort) → later r ≡ Some t → IsTaken after.actors after.posted r
      taken r t e = by (is_fresh me a.1 r) e
        where
          by : (b : Bool) → (if b then k.sorts r else sorts r) ≡ Some t → IsTaken after.actors after.posted r
          by true e = new_taken after.actors after.posted me a.1 y.serial now r (k.new r t e)
          by false e = taken_more c.actors after.actors c.posted after.posted grows r (typed.taken r t e)

      owes_caller : Owes later m.reply g.result
      owes_caller = owes_more sorts later stays m.reply g.result h.reply

      owes_new : (r : Reply) (t : Sort) → OwesNew k.sorts m.reply g.result r t → Owes later r t
      owes_new r t (inl e) = inl e
      owes_new r t (inr (inl e)) = subst (λ z. Owes later z t) (sym e.0) (subst (λ z. Owes later m.reply z) (sym e.1) owes_caller)
      owes_new r t (inr (inr e)) = inr (comes r t e)

      abbrev OfMessage : Message → Type 0
      OfMessage = IsTypedMessage sigs (OwesNew k.sorts m.reply g.result) (λ n t. k.sorts (Tok me n) ≡ Some t)

      abbrev IsGood : Message → Type 0
      IsGood = IsGoodMessage me m.reply a.1 y.serial sizes

      one_message : (x : Message) → OfMessage x → me ≡ x.maker → MessageIn sigs later (message_key x) (without_delay x)
      one_message x o same =
          undelayed_typed sigs (Owes later) (Waits later x.maker) x.target x
          (message_more sigs (OwesNew k.sorts m.reply g.result) (Owes later) (λ n t. k.sorts (Tok me n) ≡ Some t) (Waits later x.maker) owes_new (λ n t e. subst (λ z. later (Tok z n) ≡ Some t) same (comes (Tok me n) t e)) x.target x o)

      messages : EachOf (λ x. MessageIn sigs later (message_key x) (without_delay x)) y.messages
      messages = each_more (λ x. OfMessage x × IsGood x) (λ x. MessageIn sigs later (message_key x) (without_delay x)) y.messages (λ x w. one_message x w.0 (sym w.1.maker)) (each_both OfMessage IsGood y.messages k.messages order.messages)

      abbrev OfJoin : Join → Type 0
      OfJoin j = IsTypedJoin (OwesNew k.sorts m.reply g.result) (λ t. (i : ℕ) → k.sorts (Place me j.number i) ≡ Some t) j

      joins : EachOf (λ j. IsTypedJoin (Owes later) (Slots later me j.number) j) y.joins
      joins = each_more OfJoin (λ j. IsTypedJoin (Owes later) (Slots later me j.number) j) y.joins (λ j o.
          join_more (OwesNew k.sorts m.reply g.result) (Owes later) (λ t. (i : ℕ) → k.sorts (Place me j.number i) ≡ Some t) (Slots later me j.number) owes_new (λ t e i. comes (Place me j.number i) t (e i)) j o) k.joins

      waiting : WaitingIn sigs later after.waiting
      waiting =
          let before' = waiting_more sigs sorts later stays left.waiting waiting_left in
          record {
            messages = put_messages_each (MessageIn sigs later) y.messages left.waiting.messages messages before'.messages;
            joins = put_joins_each (JoinIn later) me y.joins left.waiting.joins (each_more (λ j. IsTypedJoin (Owes later) (Slots later me j.number) j) (λ j. JoinIn later (made_key me j.number) (me, j)) y.joins (λ j o. record { keyed = refl; join = o }) joins) before'.joins;
          }

      names : EachOf (λ x. name_is_spelled x.name ≡ true) y.actors
      names = each_more (λ x. s.is_new c.given x.name ≡ true) (λ x. name_is_spelled x.name ≡ true) y.actors (λ x e. new_spelled c.given x.name e) (named (s.is_new c.given) [] fresh y.actors order.names as_many all_new)

      actors : Each (ActorIn sigs) after.actors
      actors =
          let new = each_more (λ x. (fits_sorts (sigs.fields x.behavior) x.fields ≡ true) × (name_is_spelled x.name ≡ true)) (λ x. ActorIn sigs (name_key x.name) (x, 0)) y.actors (λ x w. record { fields = w.0; name = w.1 })
          (each_both (λ x. fits_sorts (sigs.fields x.behavior) x.fields ≡ true) (λ x. name_is_spelled x.name ≡ true) y.actors k.actors names) in
          each_one (ActorIn sigs) (s.put_actors y.actors c.actors) (name_key me) (record a.0 { fields = y.fields }, y.serial) (put_actors_each (ActorIn sigs) y.actors c.actors new typed.actors) (record { fields = k.fields; name = it.name })

      creations : Each (CreationIn sigs) after.creations
      creations = put_creations_each (CreationIn sigs) me y.creations c.creations (each_more (λ x. (fits_sorts (sigs.fields x.behavior) x.fields ≡ true) × (name_is_spelled (name.Uan x.name) ≡ true)) (λ x. CreationIn sigs (made_key me x.serial) (me, x)) y.creations (λ x w. record { fields = w.0; name = w.1 }) k.creations) typed.creations

      gives : EachOf (GivenIn later) (s.step_replies y m.reply)
      gives = each_append (GivenIn later) (s.full_join_replies y.joins) (s.answer_replies y.answer m.reply) (arrays_typed sigs later (λ j. Slots later me j.number) y.joins joins) (answered_typed sigs later y.answer m.reply g.result owes_caller k.answer)

      done : Typed sigs Posts (give_all (s.step_replies y m.reply) after)
      done = give_typed sigs Posts later (s.step_replies y m.reply) after gives (record { taken = taken; posts = typed.posts; actors = actors; creations = creations; waiting = waiting; answers = answers_more sorts later stays c.answers typed.answers })

    module _ (fresh : List Name) (h : IsTypedCallTo sigs (Owes sorts) (Waits sorts m.maker) m) where
      came : (a : Actor × ℕ) → fm.get c.actors (name_key a.0.name) ≡ Some a → IsActor a.0.name → s.understands a.0 m ≡ true → (o : Outcome) → p.outcome (s.call_of m a fresh) ≡ o → (d : Configuration) → s.after_outcome o maker serial fresh m a.0 left ≡ Some d → Typed sigs Posts d
      came a at actor u (Trap kind) is d e = faulted fresh (Trapped kind) d e
      came a at actor u (Done y) is d e = by (s.fits_fresh fresh y left) refl e
        where
          by : (b : Bool) → s.fits_fresh fresh y left ≡ b → (if b then Some (give_all (s.step_replies y m.reply) (s.with_effects y a.0 left)) else None) ≡ Some d → Typed sigs Posts d
          by false fits e = absurd cc
          by true fits e = let same : give_all (s.step_replies y m.reply) (s.with_effects y a.0 left) ≡ d = cc in subst (Typed sigs Posts) same (done a at actor fresh h u y is fits)

      met : (n : Name) (o : Option (Actor × ℕ)) → fm.get c.actors (name_key n) ≡ o → (d : Configuration) → s.handle_if_actor p.outcome maker serial fresh m o left ≡ Some d → Typed sigs Posts d
      met n None is d e = absurd cc
      met n (Some a) is d e = by (s.understands a.0 m) refl e
        where
          it : IsKeyed (name_key n) a
          it = kept.keyed.at (name_key n) a is

          by : (b : Bool) → s.understands a.0 m ≡ b → (if b then s.after_outcome (p.outcome (s.call_of m a fresh)) maker serial fresh m a.0 left else s.if_no_names fresh (s.add_fault NoHandler maker serial left)) ≡ Some d → Typed sigs Posts d
          by true u e = came a (ap (fm.get c.actors) it.keyed ∙ is) it.actor u (p.outcome (s.call_of m a fresh)) refl d e
          by false u e = faulted fresh NoHandler d e

    aimed : (fresh : List Name) (t : Target) → IsTypedTo sigs (Owes sorts) (Waits sorts m.maker) t m → (d : Configuration) → s.handle_if_actor p.outcome maker serial fresh m (s.actor_at t c) left ≡ Some d → Typed sigs Posts d
    aimed fresh (target.Actor n) h d e = met fresh h n (fm.get c.actors (name_key n)) refl d e
    aimed fresh target.Output h d e = absurd cc

  record Readied (o : Option Message) (f : Message → Option Configuration) (d : Configuration) : Type 0 where
    message : Message
    is : o ≡ Some message
    ready : is_ready message ≡ true
    leads : f message ≡ Some d

  readied : (o : Option Message) (f : Message → Option Configuration) (d : Configuration) → s.if_ready o f ≡ Some d → Readied o f d
  readied None f d e = absurd cc
  readied (Some m) f d e = by (is_ready m) refl e
    where
      by : (b : Bool) → is_ready m ≡ b → (if b then f m else None) ≡ Some d → Readied (Some m) f d
      by true r e = record { message = m; is = refl; ready = r; leads = e }
      by false r e = absurd cc

  printed_typed : (maker : Name) (serial : ℕ) (d : Configuration) → s.print_step maker serial c ≡ Some d → Typed sigs Posts d
  printed_typed maker serial d e =
      let r = readied (s.pending maker serial c) (λ m. s.print_message maker serial m c) d e in
      printed maker serial r.message r.is r.ready r.message.target (typed.waiting.messages.at (made_key maker serial) r.message r.is) d r.leads

  handled_typed : (maker : Name) (serial : ℕ) (fresh : List Name) (d : Configuration) → s.handle_step p.outcome maker serial fresh c ≡ Some d → Typed sigs Posts d
  handled_typed maker serial fresh d e =
      let r = readied (s.pending maker serial c) (λ m. s.handle_message p.outcome maker serial fresh m c) d e in
      aimed maker serial r.message r.is r.ready fresh r.message.target (typed.waiting.messages.at (made_key maker serial) r.message r.is) d r.leads

  -- ---- creations

  refused_typed : (maker : Name) (serial : ℕ) (o : Option (Name × Creation)) (d : Configuration) → s.refuse maker serial o c ≡ Some d → Typed sigs Posts d
  refused_typed maker serial None d e = absurd cc
  refused_typed maker serial (Some x) d e = by (s.is_given x.1 c) e
    where
      there : Configuration
      there = s.add_fault NameTaken maker serial (s.drop_creation maker serial c)

      by : (b : Bool) → (if b then Some (s.add_fault NameTaken maker serial (s.drop_creation maker serial c)) else None) ≡ Some d → Typed sigs Posts d
      by false e = absurd cc
      by true e =
          let same : s.add_fault NameTaken maker serial (s.drop_creation maker serial c) ≡ d = cc in
          subst (Typed sigs Posts) same (record { sorts = sorts; typed = record { taken = typed.taken; posts = typed.posts; actors = typed.actors; creations = each_gone (CreationIn sigs) c.creations (made_key maker serial) typed.creations; waiting = typed.waiting; answers = typed.answers } })

  bound_typed : (authorities : List Authority) (maker : Name) (serial : ℕ) (o : Option (Name × Creation)) → fm.get c.creations (made_key maker serial) ≡ o → (d : Configuration) → ((r : Reply) → IsTaken c.actors c.posted r → IsTaken d.actors d.posted r) → s.bind authorities maker serial o c ≡ Some d → Typed sigs Posts d
  bound_typed authorities maker serial None is d more e = absurd cc
  bound_typed authorities maker serial (Some x) is d more e = by (s.is_served authorities x.1.name && not (s.is_given x.1 c)) e
    where
      who : Name
      who = name.Uan x.1.name

      it : CreationIn sigs (made_key maker serial) x
      it = typed.creations.at (made_key maker serial) x is

      by : (b : Bool) → (if b then Some (s.bind_creation x.1 (s.drop_creation maker serial c)) else None) ≡ Some d → Typed sigs Posts d
      by false e = absurd cc
      by true e =
          let same : s.bind_creation x.1 (s.drop_creation maker serial c) ≡ d = cc in
          let right : (r : Reply) (t : Sort) → sorts r ≡ Some t → IsTaken (s.bind_creation x.1 (s.drop_creation maker serial c)).actors (s.bind_creation x.1 (s.drop_creation maker serial c)).posted r = λ r t o. subst (λ (z : Configuration). IsTaken z.actors z.posted r) (sym same) (more r (typed.taken r t o)) in
          subst (Typed sigs Posts) same (record {
            sorts = sorts;
            typed = record {
              taken = right;
              posts = typed.posts;
              actors = each_one (ActorIn sigs) c.actors (name_key (name.Uan x.1.name)) (s.bound_actor x.1, 0) typed.actors (record { fields = it.fields; name = it.name });
              creations = each_gone (CreationIn sigs) c.creations (made_key maker serial) typed.creations;
              waiting = typed.waiting;
              answers = typed.answers;
            };
          })

  -- ---- posts

  abbrev is_outside : ℕ → Reply → Bool
  is_outside number Nobody = false
  is_outside number (Tok maker n) = false
  is_outside number (Place maker join at) = false
  is_outside number (Outside n) = nat_eq n number

  abbrev answering : ℕ → Sort → Sorts
  answering number result r = if is_outside number r then Some result else sorts r

  old_outside : (number : ℕ) → c.posted < number → (r : Reply) → IsTaken c.actors c.posted r → is_outside number r ≡ false
  old_outside number less Nobody h = refl
  old_outside number less (Tok maker n) h = refl
  old_outside number less (Place maker join at) h = refl
  old_outside number less (Outside n) h = by (nat_eq n number) refl
    where
      by : (b : Bool) → nat_eq n number ≡ b → b ≡ false
      by false e = refl
      by true e = let none : one_if (nat_le n c.posted) ≡ 0 = ap one_if (lt-leb n c.posted (omega (arith, less, eqb-true n number e))) in absurd (omega (arith, h, none))

  new_outside : (actors : Actors) (number : ℕ) (r : Reply) → is_outside number r ≡ true → IsTaken actors number r
  new_outside actors number Nobody e = absurd cc
  new_outside actors number (Tok maker n) e = absurd cc
  new_outside actors number (Place maker join at) e = absurd cc
  new_outside actors number (Outside n) e = let one : one_if (nat_le n number) ≡ 1 = ap one_if (le-leb n number (omega (arith, eqb-true n number e))) in omega (arith, one)

  posted_by : (number : ℕ) (to : Uan) (behavior handler : ℕ) (args : List Value) → c.posted < number → Grows c.actors c.posted c.actors number → (g : Signature) → signature_at sigs behavior handler ≡ Some g → are_of_sorts g.params args ≡ true → Posts number g.result → Typed sigs Posts (s.after_post number to behavior handler args c)
  posted_by number to behavior handler args less grows g is fit promise =
      record {
        sorts = answering number g.result;
        typed = record {
          taken = λ r t e. taken r t (is_outside number r) refl e;
          posts = λ n t e. posts n t (nat_eq n number) refl e;
          answers = answers_more sorts (answering number g.result) stays c.answers typed.answers;
          actors = typed.actors;
          creations = typed.creations;
          waiting = record {
            messages = put_messages_each (MessageIn sigs (answering number g.result)) (post_message number to behavior handler args ∷ []) c.waiting.messages (one, tt) more.messages;
            joins = more.joins;
          };
        };
      }
    where
      taken : (r : Reply) (t : Sort) (b : Bool) → is_outside number r ≡ b → (if b then Some g.result else sorts r) ≡ Some t → IsTaken c.actors number r
      taken r t true o e = new_outside c.actors number r o
      taken r t false o e = taken_more c.actors c.actors c.posted number grows r (typed.taken r t e)

      stays : (r : Reply) (t : Sort) → sorts r ≡ Some t → answering number g.result r ≡ Some t
      stays r t e = ap (λ b. if b then Some g.result else sorts r) (old_outside number less r (typed.taken r t e)) ∙ e

      posts : (n : ℕ) (t : Sort) (b : Bool) → nat_eq n number ≡ b → (if b then Some g.result else sorts (Outside n)) ≡ Some t → Posts n t
      posts n t true o e = subst (λ z. Posts z t) (sym (eqb-true n number o)) (subst (Posts number) (some_is e) promise)
      posts n t false o e = typed.posts n t e

      more : WaitingIn sigs (answering number g.result) c.waiting
      more = waiting_more sigs sorts (answering number g.result) stays c.waiting typed.waiting

      one : IsTypedCallTo sigs (Owes (answering number g.result)) (Waits (answering number g.result) (name.Outside number)) (without_delay (post_message number to behavior handler args))
      one = record {
        signature = g;
        is = is;
        args = all_known (Waits (answering number g.result) (name.Outside number)) g.params args fit;
        reply = inr (ap (λ b. if b then Some g.result else sorts (Outside number)) (eq-eqb number number refl));
      }

  posted_typed : (number : ℕ) (to : Uan) (behavior handler : ℕ) (args : List Value) → ((g : Signature) → signature_at sigs behavior handler ≡ Some g → Posts number g.result) → (d : Configuration) → ((n : Name) → next_serial c.actors c.posted n ≤ next_serial d.actors d.posted n) → s.post_step (p.fits_call behavior handler args) number to behavior handler args c ≡ Some d → Typed sigs Posts d
  posted_typed number to behavior handler args promise d grew e = by (p.fits_call behavior handler args) (fits_post c.posted number to behavior args) refl refl e
    where
      there : Configuration
      there = s.after_post number to behavior handler args c

      signed_by : (o : Option Signature) → signature_at sigs behavior handler ≡ o → fits_signature o args ≡ true → c.posted < number → Grows c.actors c.posted c.actors number → Typed sigs Posts (s.after_post number to behavior handler args c)
      signed_by None is fit less grows = absurd cc
      signed_by (Some g) is fit less grows = posted_by number to behavior handler args less grows g is fit (promise g is)

      by : (a b : Bool) → p.fits_call behavior handler args ≡ a → fits_post c.posted number to behavior args ≡ b → (if a && b then Some (s.after_post number to behavior handler args c) else None) ≡ Some d → Typed sigs Posts d
      by false b f q e = absurd cc
      by true false f q e = absurd cc
      by true true f q e =
          let same : s.after_post number to behavior handler args c ≡ d = cc in
          let less : c.posted < number = ltb-true c.posted number (split (nat_lt c.posted number) _ q).0 in
          subst (Typed sigs Posts) same (signed_by (signature_at sigs behavior handler) refl (sym (agrees.calls behavior handler args) ∙ f) less (λ n. subst (λ (z : Configuration). next_serial c.actors c.posted n ≤ next_serial z.actors z.posted n) (sym same) (grew n)))

  -- ---- any step

  pub step_typed : (setup : Setup) (one : Step) → Promise sigs Posts one → (d : Configuration) → Grows c.actors c.posted d.actors d.posted → s.step p setup c one ≡ Some d → Typed sigs Posts d
  unfolding s.step
  step_typed setup (Handle m n fresh) q d grew e = handled_typed m n fresh d e
  step_typed setup (Print m n) q d grew e = printed_typed m n d e
  step_typed setup (Bind m n) q d grew e = bound_typed setup.authorities m n (fm.get c.creations (made_key m n)) refl d (taken_more c.actors d.actors c.posted d.posted grew) e
  step_typed setup (Refuse m n) q d grew e = refused_typed m n (fm.get c.creations (made_key m n)) d e
  step_typed setup (Post number to behavior handler args) q d grew e = posted_typed number to behavior handler args q d grew e
