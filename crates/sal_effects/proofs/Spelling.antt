-- What handlers leave has a spelling.
use Rattle.std.proofs.Common.{◌≡◌, ℕ, zero, suc, ◌+◌, inl, inr, Bool, true, false, ◌&&◌, List, [], ◌∷◌, length, Option, Some, None, refl, sym, subst, ◌∙◌}
use Rattle.std.specs.Prelude.{slice_get, nat_le}
use Rattle.sal_value.specs.declared.name.Uan.{Uan}
use Rattle.sal_value.specs.declared.name.Ual.{Ual}
use Rattle.sal_value.specs.declared.name.Name.{Name}
use Rattle.sal_value.specs.declared.name.Name.TheVariants as name
use Rattle.sal_value.specs.declared.value.Value.{Value}
use Rattle.sal_value.specs.declared.value.Value.TheVariants.{Str, Array, Ref}
use Rattle.sal_value.specs.Names.{uan_of, ual_of, is_uan, is_ual}
use Rattle.sal_value.specs.Spelling.{name_is_spelled, is_legal, fits, spelling}
use Rattle.sal_value.proofs.Equations.{fits_ref}
use Rattle.sal_value.proofs.Decided.{names_are_decided}
use Rattle.sal_value.proofs.Readings.{names_are_read, locators_are_read}
use Rattle.sal_ast.specs.declared.program.Behavior.{Behavior}
use Rattle.sal_ast.specs.declared.program.Program.{Program}
use Rattle.sal_mail.specs.declared.message.Target.{Target}
use Rattle.sal_mail.specs.declared.message.Target.TheVariants as target
use Rattle.sal_mail.specs.declared.message.Reply.{Reply}
use Rattle.sal_mail.specs.declared.message.Reply.TheVariants.{Nobody, Tok, Place, Outside}
use Rattle.sal_mail.specs.declared.message.Message.{Message}
use Rattle.sal_mail.specs.declared.effects.Actor.{Actor}
use Rattle.sal_mail.specs.declared.effects.Creation.{Creation}
use Rattle.sal_mail.specs.declared.effects.Effects.{Effects}
use Rattle.sal_envelope.specs.Spelling.{reply_is_spelled}
use Rattle.sal_handler.specs.declared.state.Flow.{Flow}
use Rattle.sal_handler.specs.declared.state.Flow.TheVariants.{Next, Returned, Passed}
use Rattle.sal_handler.specs.declared.state.State.{State}
use Rattle.sal_handler.specs.declared.turn.Outcome.TheVariants.{Done}
use Rattle.sal_handler.specs.Calls.{Call}
use Rattle.sal_handler.specs.Scopes as c
use Rattle.sal_handler.specs.Scopes.{Context, fresh_name}
use Rattle.sal_handler.specs.Handler as h
use Rattle.sal_handler.specs.WellFormed.{EachOf, Legal, IsSoundCall, IsGoodMessage, IsNewReply, IsAllowedReply, HaveFreshNames, program_sizes}
use Rattle.sal_handler.proofs.Addresses.{each_append, each_more}
use Rattle.sal_handler.proofs.FairCalls.{handlers_orderly}
use Rattle.sal_handler.proofs.Legal as l
use Rattle.sal_effects.specs.Texts.{program_texts}
use Rattle.sal_effects.specs.Spelled.{TargetIsSpelled, IsLocator, IsLegalAnswer, MessageIsSpelled, HandlersSpellAll, ProgramsBeginLegally}
use Rattle.sal_effects.proofs.Anything.{each_any}
use Rattle.sal_effects.proofs.Beginning.{begins}
use Rattle.sal_effects.proofs.Changes.{Values, TargetOk, IsReadPlace, Law}
use Rattle.sal_effects.proofs.Values.{Able}
use Rattle.sal_effects.proofs.Handlers.{has_run}
use Rattle.sal_effects.proofs.Running.{FlowOk}

-- ---- values

pub read_name : (text : List ℕ) (u : Uan) → uan_of text ≡ Some u → is_uan u ≡ true
read_name text u e = names_are_read.given text u (names_are_decided.uan text u e)

read_place : (text : List ℕ) (y : Ual) → ual_of text ≡ Some y → is_ual y ≡ true
read_place text y e = locators_are_read.given text y (names_are_decided.ual text y e)

pub uan_legal : (u : Uan) → is_uan u ≡ true → Legal (Ref (name.Uan u))
unfolding name_is_spelled
uan_legal u e = l.legal_ref (name.Uan u) e

abbrev pub legal : Values
legal = record {
  Holds = Legal;
  Literal = λ text. Unit {0};
  null = l.legal_null;
  number = λ n. l.legal_int _;
  text = λ text v k e. l.made_legal (Str text) v e;
  truth = l.legal_bool;
  negated = λ v. l.legal_int _;
  size = λ v. l.legal_int _;
  item = λ v y n k e. l.item_legal v y n k e;
  operated = λ o a b y j k e. l.operate_legal o a b y k e;
  array = l.array_legal;
  list = λ vs y k e. l.made_legal (Array vs) y e;
  assigned = λ old is new y j k e. l.assigned_legal old is new y k e;
  default = l.default_legal;
  named = λ text u e. uan_legal u (read_name text u e);
}

split : (a b : Bool) → a && b ≡ true → a ≡ true
split true b e = refl
split false b e = absurd cc

ref_spelled : (n : Name) → Legal (Ref n) → name_is_spelled n ≡ true
unfolding is_legal
ref_spelled n e = sym (fits_ref n 64) ∙ split (fits (Ref n) 64) (nat_le (length (spelling (Ref n))) 65536) e

target_spelled : (t : Target) → TargetOk legal t → TargetIsSpelled t
target_spelled (target.Actor n) k = ref_spelled n k
target_spelled target.Output k = tt

-- ---- names for new actors

pub named_or : (fresh : List Name) (i j : ℕ) → EachOf (λ n. name_is_spelled n ≡ true) fresh → name_is_spelled (c.name_or (slice_get fresh i) j) ≡ true
unfolding name_is_spelled
named_or [] i j e = refl
named_or (n ∷ ns) zero j e = e.0
named_or (n ∷ ns) (suc i) j e = named_or ns i j e.1

pub alone_legal : (law : Law) → ((v : Value) → Legal v → law.values.Holds v) → (behaviors : List Behavior) (n : ℕ) → Able law (h.constructor_context behaviors n)
unfolding name_is_spelled
alone_legal law f behaviors n = record { me = f _ (l.legal_ref (name.Outside 0) refl); fresh = λ i low. f _ (l.legal_ref (fresh_name [] i) (named_or [] i i tt)); make = tt }

-- ---- what a part keeps

abbrev pub CreationIsSpelled : Creation → Type 0
CreationIsSpelled x = (is_uan x.name ≡ true) × IsLocator x.place

pub record Spells (s t : State) : Type 0 where
  pub messages : EachOf (λ m. TargetIsSpelled m.target) s.messages → EachOf (λ m. TargetIsSpelled m.target) t.messages
  pub creations : EachOf CreationIsSpelled s.creations → EachOf CreationIsSpelled t.creations

place_read : (o : Option Ual) → IsReadPlace o → IsLocator o
place_read None k = tt
place_read (Some y) k = read_place k.0 y k.1

abbrev spelling_law : Law
spelling_law = record {
  values = legal;
  Whole = ⊥;
  Moves = λ r k s t. Spells s t;
  quiet = λ r s locals fields turns. record { messages = λ m. m; creations = λ x. x };
  next = λ r k s t u p q. record { messages = λ m. q.messages (p.messages m); creations = λ x. q.creations (p.creations x) };
  scoped = λ r k s t locals p. record { messages = p.messages; creations = p.creations };
  sends = λ r y before last to args delay s ok. record {
    messages = λ m. each_append (λ (m : Message). TargetIsSpelled m.target) s.messages _ m (target_spelled to ok.target, tt);
    creations = λ x. x;
  };
  joins = λ r before last void s b ok p. record { messages = p.messages; creations = p.creations };
  makes = λ r behavior fields s ok. record { messages = λ m. m; creations = λ x. x };
  creates = λ r behavior u place fields s ok low read at. record {
    messages = λ m. m;
    creations = λ x. each_append CreationIsSpelled s.creations _ x ((read_name read.0 u read.1, place_read place at), tt);
  };
}

-- ---- the laws

new_spelled : (me : Name) (from to : ℕ) (r : Reply) → name_is_spelled me ≡ true → IsNewReply me from to r → reply_is_spelled r ≡ true
unfolding reply_is_spelled
new_spelled me from to Nobody e k = absurd k
new_spelled me from to (Tok o n) e k = subst (λ m. name_is_spelled m ≡ true) (sym k.0) e
new_spelled me from to (Place o j i) e k = subst (λ m. name_is_spelled m ≡ true) (sym k.0) e
new_spelled me from to (Outside n) e k = absurd k

nobody_spelled : reply_is_spelled Nobody ≡ true
unfolding reply_is_spelled
nobody_spelled = refl

allowed_spelled : (me : Name) (caller : Reply) (from to : ℕ) (r : Reply) → name_is_spelled me ≡ true → reply_is_spelled caller ≡ true → IsAllowedReply me caller from to r → reply_is_spelled r ≡ true
allowed_spelled me caller from to r e f (inl same) = subst (λ q. reply_is_spelled q ≡ true) (sym same) nobody_spelled
allowed_spelled me caller from to r e f (inr (inl same)) = subst (λ q. reply_is_spelled q ≡ true) (sym same) f
allowed_spelled me caller from to r e f (inr (inr new)) = new_spelled me from to r e new

each_two : {X : Type 0} (P Q R : X → Type 0) (xs : List X) → ((x : X) → P x → Q x → R x) → EachOf P xs → EachOf Q xs → EachOf R xs
each_two P Q R [] f p q = tt
each_two P Q R (x ∷ xs) f p q = (f x p.0 q.0, each_two P Q R xs f p.1 q.1)

actors_named : (fresh : List Name) (i : ℕ) (xs : List Actor) → EachOf (λ n. name_is_spelled n ≡ true) fresh → HaveFreshNames fresh i xs → EachOf (λ (a : Actor). name_is_spelled a.name ≡ true) xs
actors_named fresh i [] e k = tt
actors_named fresh i (a ∷ xs) e k = (subst (λ n. name_is_spelled n ≡ true) (sym k.0) (named_or fresh i i e), actors_named fresh (i + 1) xs e k.1)

answer_legal : (law : Law) → ((v : Value) → law.values.Holds v → Legal v) → (r : Context) (k : ℕ) (f : Flow) → FlowOk law r k f → IsLegalAnswer (h.answer_of_flow f)
answer_legal law g r k Next e = l.legal_null
answer_legal law g r k (Returned v) e = g v e.1
answer_legal law g r k Passed e = tt

-- the names of creations have texts, to whomever the reply is owed
pub creations_spelled : (p : Program) (q : Call) (e : Effects) → IsSoundCall q → h.handle p q ≡ Done e → EachOf CreationIsSpelled e.creations
creations_spelled p q e sound is =
    let run = has_run spelling_law (alone_legal spelling_law (λ v k. k)) p q (record { texts = each_any (program_texts p); whole = λ b. absurd b })
    (record { fields = sound.fields; args = sound.args; me = l.legal_ref q.me sound.me; names = λ i low. l.legal_ref (fresh_name q.names i) (named_or q.names i i sound.names) }) e is in
    subst (λ (z : Effects). EachOf CreationIsSpelled z.creations) (sym run.effects) (run.left.moved.creations tt)

pub spell_all : HandlersSpellAll
spell_all p c e sound reply is =
    let run = has_run spelling_law (alone_legal spelling_law (λ v k. k)) p c (record { texts = each_any (program_texts p); whole = λ b. absurd b })
    (record { fields = sound.fields; args = sound.args; me = l.legal_ref c.me sound.me; names = λ i low. l.legal_ref (fresh_name c.names i) (named_or c.names i i sound.names) }) e is in
    let order = handlers_orderly p c e sound.reply is in
    let targets = subst (λ (z : Effects). EachOf (λ (m : Message). TargetIsSpelled m.target) z.messages) (sym run.effects) (run.left.moved.messages tt) in
    let made = subst (λ (z : Effects). EachOf CreationIsSpelled z.creations) (sym run.effects) (run.left.moved.creations tt) in
    record {
      messages = each_two (IsGoodMessage c.me c.reply c.serial e.serial (program_sizes p)) (λ (m : Message). TargetIsSpelled m.target) MessageIsSpelled e.messages
          (λ m good t. record { maker = subst (λ n. name_is_spelled n ≡ true) (sym good.maker) sound.me; target = t; reply = allowed_spelled c.me c.reply c.serial e.serial m.reply sound.me reply good.reply }) order.messages targets;
      joins = each_more (λ j. IsAllowedReply c.me c.reply c.serial e.serial j.reply) (λ j. reply_is_spelled j.reply ≡ true) e.joins (λ j good. allowed_spelled c.me c.reply c.serial e.serial j.reply sound.me reply good) order.joins;
      actors = actors_named c.names 0 e.actors sound.names order.names;
      creations = each_more CreationIsSpelled (λ x. is_uan x.name ≡ true) e.creations (λ x k. k.0) made;
      places = each_more CreationIsSpelled (λ x. IsLocator x.place) e.creations (λ x k. k.1) made;
      answer = subst (λ (z : Effects). IsLegalAnswer z.answer) (sym run.effects) (answer_legal spelling_law (λ v k. k) (h.handler_context p c) run.left.passes run.flow run.left.flow);
    }

pub begin_legally : ProgramsBeginLegally
begin_legally p behavior handler fields e = (begins spelling_law (alone_legal spelling_law (λ v k. k)) p (record { texts = each_any (program_texts p); whole = λ b. absurd b }) behavior handler fields e).held
