-- What the handlers of an accepted program leave is typed.
use Rattle.std.proofs.Common.{◌≡◌, inl, inr, ℕ, zero, suc, ◌≤◌, Bool, true, false, if◌then◌else◌, nat_eq, List, [], ◌∷◌, length, map, Option, Some, None, Ok, Err, refl, sym, ap, subst, ◌∙◌, arith}
use Rattle.std.specs.Prelude.{slice_get, nat_lt, is_some}
use Rattle.std.proofs.lemmas.Bool.{eqb-true}
use Rattle.sal_value.specs.declared.name.Name.TheVariants as name
use Rattle.sal_value.specs.declared.value.Sort.{Sort as MeantSort}
use Rattle.sal_value.specs.declared.value.Value.{Value}
use Rattle.sal_value.specs.declared.value.Value.TheVariants.{Null}
use Rattle.sal_value.specs.Membership.{belongs}
use Rattle.sal_value.specs.Spelling.{name_is_spelled, is_legal}
use Rattle.sal_value.proofs.Tables.{some_is}
use Rattle.sal_ast.specs.declared.program.TypeName.{TypeName}
use Rattle.sal_ast.specs.declared.program.Param.{Param}
use Rattle.sal_ast.specs.declared.program.Behavior.{Behavior}
use Rattle.sal_ast.specs.declared.program.Program.{Program}
use Rattle.sal_ast.specs.Members.{Field, Handler, fields_of, handlers_of, handlers_at}
use Rattle.sal_ast.specs.Sorts.{Scope, fields_in, type_sort, result_sort}
use Rattle.sal_mail.specs.declared.constants.TheConstants.{MIGRATE}
use Rattle.sal_mail.specs.declared.effects.Actor.{Actor}
use Rattle.sal_mail.specs.declared.effects.Creation.{Creation}
use Rattle.sal_mail.specs.declared.effects.Effects.{Effects}
use Rattle.sal_mail.specs.declared.fault.Trap.TheVariants.{TooManyMessages}
use Rattle.sal_mail.specs.declared.message.Message.{Message}
use Rattle.sal_mail.specs.declared.message.Reply.TheVariants.{Tok}
use Rattle.sal_sorts.specs.declared.variable.MemberKind.TheVariants as kind
use Rattle.sal_sorts.specs.Sorts.{sort_of_result}
use Rattle.sal_sorts.specs.Environments.{Environment, handlers_in}
use Rattle.sal_types.specs.declared.signature.Signature.{Signature}
use Rattle.sal_types.specs.Programs.{IsAccepted}
use Rattle.sal_types.specs.Signatures.{cons_some, all_some, signature_with}
use Rattle.sal_types.proofs.Ends.{handlers_end}
use Rattle.sal_typing.specs.Numbers.{number_sort, scope_of}
use Rattle.sal_typing.specs.Known.{IsKnown}
use Rattle.sal_typing.specs.Members.{environment_of}
use Rattle.sal_typing.specs.StatementParts.{SequenceParts}
use Rattle.sal_typing.proofs.Numbering.{number_of_result}
use Rattle.sal_typing.proofs.Members.{programs_have_parts}
use Rattle.sal_handler.specs.declared.state.Flow.{Flow}
use Rattle.sal_handler.specs.declared.state.Flow.TheVariants.{Next, Returned, Passed}
use Rattle.sal_handler.specs.declared.state.State.{State}
use Rattle.sal_handler.specs.declared.turn.Outcome.TheVariants.{Done}
use Rattle.sal_handler.specs.Evaluation.{OrTrap, and_then}
use Rattle.sal_handler.specs.declared.constants.TheConstants.{LAST_SERIAL}
use Rattle.sal_handler.specs.Calls.{Call}
use Rattle.sal_handler.specs.Fits.{fits_sort, fit_sorts, sorts_of}
use Rattle.sal_handler.specs.Handler as h
use Rattle.sal_handler.specs.Statements.{exec_block}
use Rattle.sal_handler.specs.WellFormed.{EachOf, Legal, IsLegalPiece, IsSoundCall, IsWellFormed, program_sizes}
use Rattle.sal_handler.proofs.After.{After}
use Rattle.sal_handler.proofs.FairCalls.{handlers_fair}
use Rattle.sal_effects.proofs.Spelling.{CreationIsSpelled, creations_spelled}
use Rattle.sal_fitting.specs.Handlers.{IsCalled, IsTypedCall, IsAnswer, IsTypedActor, IsTypedCreation, OwesNew, AreTyped, HandlersKeepTypes}
use Rattle.sal_fitting.specs.Messages.{IsTypedMessage}
use Rattle.sal_fitting.specs.Programs.{or_void, signature_of, signature_in, signatures, field_sorts}
use Rattle.sal_fitting.specs.Signatures.{fits_sorts}
use Rattle.sal_fitting.proofs.Migrating.{migrate_typed}
use Rattle.sal_fitting.proofs.Pieces.{null_void, split}
use Rattle.sal_preservation.specs.States.{AreFields}
use Rattle.sal_preservation.proofs.Expressions.{Belongs}
use Rattle.sal_soundness.proofs.Anywhere.{HasFields, Can}
use Rattle.sal_soundness.proofs.Ending.{NotNext, body_ends}
use Rattle.sal_soundness.proofs.Joining.{message_fits, state_fits}
use Rattle.sal_soundness.proofs.Making.{ArgsFit, params_environment, with_params_is, behavior_regular, no_sorts, starts, makes_named}
use Rattle.sal_soundness.proofs.Sending as sending
use Rattle.sal_soundness.proofs.Sending.{FlowOk}
use Rattle.sal_soundness.proofs.Sends.{tokens}
use Rattle.sal_soundness.proofs.Signing.{at_number}
use Rattle.sal_soundness.proofs.Statements as statements

-- ---- what fits is typed and legal

pub all_there : (os : List (Option MeantSort)) (ts : List MeantSort) → all_some os ≡ Some ts → os ≡ map (λ s. Some s) ts
all_there [] ts e = ap (map (λ s. Some s)) (some_is e)
all_there (o ∷ os) ts e = by o (all_some os) refl (λ us i. all_there os us i) e
  where
    by : (q : Option MeantSort) (rest : Option (List MeantSort)) → all_some os ≡ rest → ((us : List MeantSort) → all_some os ≡ Some us → os ≡ map (λ s. Some s) us) → cons_some q rest ≡ Some ts → q ∷ os ≡ map (λ s. Some s) ts
    by None rest i more e = absurd cc
    by (Some u) None i more e = absurd cc
    by (Some u) (Some us) i more e = ap (λ z. Some u ∷ z) (more us i) ∙ ap (map (λ s. Some s)) (some_is e)

-- as many values as there are types
fit_all : (os : List (Option MeantSort)) (ys : List Value) → fits_sorts (all_some os) ys ≡ true → fit_sorts os ys ≡ true
fit_all os ys e = by (all_some os) refl e
  where
    by : (rest : Option (List MeantSort)) → all_some os ≡ rest → fits_sorts rest ys ≡ true → fit_sorts os ys ≡ true
    by None i e = absurd cc
    by (Some ts) i e = ap (λ z. fit_sorts z ys) (all_there os ts i) ∙ e

one_fits : (o : Option MeantSort) (y : Value) → fits_sort o y ≡ true → (u : MeantSort) × ((o ≡ Some u) × (Belongs u y × Legal y))
one_fits None y e = absurd cc
one_fits (Some u) y e = let q = split (is_legal y) (belongs y u) e in (u, (refl, (q.1, q.0)))

pub fields_typed : (bs : List Behavior) (fs : List Field) (ys : List Value) → fit_sorts (sorts_of bs (map (λ f. f.sort) fs)) ys ≡ true → AreFields bs fs ys × EachOf Legal ys
fields_typed bs [] [] e = (tt, tt)
fields_typed bs [] (y ∷ ys) e = absurd cc
fields_typed bs (f ∷ fs) [] e = absurd cc
fields_typed bs (f ∷ fs) (y ∷ ys) e =
    let q = split (fits_sort (type_sort f.sort bs) y) (fit_sorts (sorts_of bs (map (λ f. f.sort) fs)) ys) e in
    let o = one_fits (type_sort f.sort bs) y q.0 in
    let more = fields_typed bs fs ys q.1 in
    (((o.0, (o.1.0, o.1.1.0)), more.0), (o.1.1.1, more.1))

args_typed : (bs : List Behavior) (ps : List Param) (ys : List Value) → fit_sorts (sorts_of bs (map (λ q. q.sort) ps)) ys ≡ true → ArgsFit bs ps ys × EachOf Legal ys
args_typed bs [] [] e = (tt, tt)
args_typed bs [] (y ∷ ys) e = absurd cc
args_typed bs (f ∷ fs) [] e = absurd cc
args_typed bs (f ∷ fs) (y ∷ ys) e =
    let q = split (fits_sort (type_sort f.sort bs) y) (fit_sorts (sorts_of bs (map (λ f. f.sort) fs)) ys) e in
    let o = one_fits (type_sort f.sort bs) y q.0 in
    let more = args_typed bs fs ys q.1 in
    (((o.0, (o.1.0, o.1.1.0)), more.0), (o.1.1.1, more.1))

pub signature_parts : (o : Option (List MeantSort)) (result : MeantSort) (g : Signature) → signature_with o (Some result) ≡ Some g → (o ≡ Some g.params) × (result ≡ g.result)
signature_parts None result g e = absurd cc
signature_parts (Some ts) result g e = let same : record { params = ts; result = result } ≡ g = some_is e in (ap (λ (s : Signature). Some s.params) same, ap (λ (s : Signature). s.result) same)

each_two : {X : Type 0} (P Q R : X → Type 0) (xs : List X) → ((x : X) → P x → Q x → R x) → EachOf P xs → EachOf Q xs → EachOf R xs
each_two P Q R [] f p q = tt
each_two P Q R (x ∷ xs) f p q = (f x p.0 q.0, each_two P Q R xs f p.1 q.1)

past_end : {X : Type 0} (xs : List X) (n k : ℕ) → length xs ≤ n → n ≤ k → slice_get xs k ≡ None
past_end [] n k l m = refl
past_end (x ∷ xs) n zero l m = absurd (omega (arith, l, m))
past_end (x ∷ xs) n (suc k) l m = past_end xs (length xs) k (omega arith) (omega (arith, l, m))

-- ---- answers

answered : (bs : List Behavior) (o : Option TypeName) (result : MeantSort) (f : Flow) → (is_some o ≡ true → NotNext f) → or_void (result_sort o bs) ≡ result → FlowOk result f → IsAnswer result (h.answer_of_flow f)
answered bs None result Next n same k = subst (λ (s : MeantSort). Belongs s Null) same null_void
answered bs (Some t) result Next n same k = absurd (n refl)
answered bs o result (Returned y) n same k = k
answered bs o result Passed n same k = tt

-- ---- effects

name_spelled : (u : _) → CreationIsSpelled u → name_is_spelled (name.Uan u.name) ≡ true
unfolding name_is_spelled
name_spelled u k = k.0

module _ (p : Program) (a : IsAccepted p) (g : Signature) (c : Call) (call : IsTypedCall (signatures p) g c) where
  actor_fits : (n : ℕ) (ys : List Value) → HasFields p.behaviors n ys → EachOf Legal ys → fits_sorts ((signatures p).fields n) ys ≡ true
  actor_fits n ys f l = state_fits p.behaviors (slice_get p.behaviors n) f.0.0 f.0.1 ys f.1 l

  -- what a body leaves that ended so
  left_typed : (f : Flow) (u : State) (sc : Scope) (ks : List (Option MeantSort)) → sending.Within p.behaviors (signatures p) g c.serial (h.handler_context p c) sc ks None no_sorts u → IsAnswer g.result (h.answer_of_flow f)
      → IsWellFormed (program_sizes p) c (h.effects_of f u c.fresh) → EachOf CreationIsSpelled u.creations → AreTyped (signatures p) g c (h.effects_of f u c.fresh)
  left_typed f u sc ks w answer good named = record {
    sorts = w.later;
    new = w.held.new;
    answer = answer;
    messages = each_two (sending.MessageMade p.behaviors (signatures p) g c.serial w.later (h.handler_context p c)) (λ (y : Message). EachOf IsLegalPiece y.args) (IsTypedMessage (signatures p) (OwesNew w.later c.reply g.result) (λ n s. w.later (Tok c.me n) ≡ Some s)) u.messages
        (λ y k l. message_fits p.behaviors (signatures p) g c.serial w.later (h.handler_context p c) y k l) w.held.messages good.args;
    joins = w.held.joins;
    fields = actor_fits c.behavior u.fields w.held.sits.fields good.fields;
    actors = each_two (λ (x : Actor). HasFields p.behaviors x.behavior x.fields) (λ (x : Actor). EachOf Legal x.fields) (IsTypedActor (signatures p)) u.actors (λ x k l. actor_fits x.behavior x.fields k l) w.held.sits.actors good.actors;
    creations = each_two (λ (x : Creation). HasFields p.behaviors x.behavior x.fields × CreationIsSpelled x) (λ (x : Creation). EachOf Legal x.fields) (IsTypedCreation (signatures p)) u.creations (λ x k l. (actor_fits x.behavior x.fields k.0 l, name_spelled x k.1))
        (each_two (λ (x : Creation). HasFields p.behaviors x.behavior x.fields) CreationIsSpelled (λ (x : Creation). HasFields p.behaviors x.behavior x.fields × CreationIsSpelled x) u.creations (λ x k l. (k, l)) w.held.sits.creations named) good.creations;
  }

  -- a handler of the actor's behaviour
  module _ (b : Behavior) (is : slice_get p.behaviors c.behavior ≡ Some b) (q : Handler) (at : slice_get (handlers_of b) c.handler ≡ Some q) (signed : signature_of p.behaviors (Some q) ≡ Some g) where
    parts : (all_some (sorts_of p.behaviors (map (λ x. x.sort) q.params)) ≡ Some g.params) × (or_void (result_sort q.result p.behaviors) ≡ g.result)
    parts = signature_parts (all_some (sorts_of p.behaviors (map (λ x. x.sort) q.params))) (or_void (result_sort q.result p.behaviors)) g signed

    args : ArgsFit p.behaviors q.params c.args × EachOf Legal c.args
    args = args_typed p.behaviors q.params c.args (ap (λ z. fit_sorts z c.args) (all_there (sorts_of p.behaviors (map (λ x. x.sort) q.params)) g.params parts.0) ∙ call.args)

    fields : AreFields p.behaviors (fields_of b) c.fields × EachOf Legal c.fields
    fields = fields_typed p.behaviors (fields_of b) c.fields (fit_all (sorts_of p.behaviors (map (λ x. x.sort) (fields_of b))) c.fields (sym (ap (λ o. fits_sorts (field_sorts p.behaviors o) c.fields) is) ∙ call.fields))

    sound : IsSoundCall c
    sound = record { fields = fields.1; args = args.1; reply = call.reply; me = call.me; names = call.names }

    can : Can p.behaviors (h.handler_context p c)
    can = (makes_named p a, refl)

    abbrev around : Environment
    around = params_environment (environment_of p b kind.Handler (sort_of_result q.result)) q.params

    known : IsKnown around c.behavior
    known = subst (λ z. IsKnown z c.behavior) (with_params_is q.params (environment_of p b kind.Handler (sort_of_result q.result))) (((programs_have_parts p a.typed).behaviors c.behavior b is).handlers c.handler q at).0.known

    result : number_sort (sort_of_result q.result) p.behaviors ≡ Some g.result
    result =
        let u = statements.slot_of p a.typed g c.serial (sort_of_result q.result) known.result in
        let there : result_sort q.result p.behaviors ≡ Some u.0 = sym (number_of_result q.result p.behaviors) ∙ u.1 in
        u.1 ∙ ap (λ z. Some z) (sym (ap or_void there) ∙ parts.1)

    stands : statements.Stands p a.typed g c.serial around c.behavior (h.handler_context p c)
    stands = record { known = known; same = refl; result = result; outside = λ e. refl }

    ends : is_some q.result ≡ true → After (λ f u. NotNext f) (exec_block q.body (h.handler_context p c) (h.initial_state (h.parameters p.behaviors q.params c.args) c.fields c.serial))
    ends e =
        let there : slice_get (handlers_at p.behaviors (Some c.behavior)) c.handler ≡ Some q = ap (λ list. slice_get list c.handler) (at_number p.behaviors c.behavior) ∙ (ap (λ o. slice_get (handlers_in o) c.handler) is ∙ at) in
        body_ends q.body (handlers_end p a.typed c.behavior c.handler q there e) (h.handler_context p c) refl (h.initial_state (h.parameters p.behaviors q.params c.args) c.fields c.serial)

    runs : After (λ f u. sending.Within p.behaviors (signatures p) g c.serial (h.handler_context p c) (scope_of around c.behavior) (tokens around) None no_sorts u × FlowOk g.result f) (exec_block q.body (h.handler_context p c) (h.initial_state (h.parameters p.behaviors q.params c.args) c.fields c.serial))
    runs =
        let body = (((programs_have_parts p a.typed).behaviors c.behavior b is).handlers c.handler q at).0 in
        statements.body_held p a.typed g c.serial q.body around c.behavior (h.handler_context p c) stands can refl body.results
        (subst (λ z. SequenceParts q.body z body.results) (with_params_is q.params (environment_of p b kind.Handler (sort_of_result q.result))) body.parts)
        ((behavior_regular p a.readable.regular c.behavior b is).handlers c.handler q at)
        no_sorts (h.initial_state (h.parameters p.behaviors q.params c.args) c.fields c.serial)
        (starts p g c.serial (environment_of p b kind.Handler (sort_of_result q.result)) c.behavior (h.handler_context p c) q.params refl refl refl refl c.args c.fields args.0 ((b, is), subst (λ o. AreFields p.behaviors (fields_in o) c.fields) (sym is) fields.0))

    ran : (e : Effects) → h.handle p c ≡ Done e → h.outcome_of (h.run_handler (Some q) p c) ≡ Done e → AreTyped (signatures p) g c e
    ran e whole done = by (exec_block q.body (h.handler_context p c) (h.initial_state (h.parameters p.behaviors q.params c.args) c.fields c.serial)) runs ends done
      where
        by : (o : OrTrap (Flow × State)) → After (λ f u. sending.Within p.behaviors (signatures p) g c.serial (h.handler_context p c) (scope_of around c.behavior) (tokens around) None no_sorts u × FlowOk g.result f) o → (is_some q.result ≡ true → After (λ f u. NotNext f) o)
            → h.outcome_of (and_then o (λ x. Ok (h.effects_of x.0 x.1 c.fresh))) ≡ Done e → AreTyped (signatures p) g c e
        by (Err k) w n d = absurd cc
        by (Ok x) w n d =
            let same : h.effects_of x.0 x.1 c.fresh ≡ e = cc in
            let made : h.handle p c ≡ Done (h.effects_of x.0 x.1 c.fresh) = whole ∙ ap (λ z. Done z) (sym same) in
            subst (AreTyped (signatures p) g c) same
            (left_typed x.0 x.1 (scope_of around c.behavior) (tokens around) w.0 (answered p.behaviors q.result g.result x.0 n parts.1 w.1) (handlers_fair p c (h.effects_of x.0 x.1 c.fresh) sound made) (creations_spelled p c (h.effects_of x.0 x.1 c.fresh) sound made))

  -- ---- the whole

  handler_there : (b : Behavior) → slice_get p.behaviors c.behavior ≡ Some b → (o : Option Handler) → slice_get (handlers_of b) c.handler ≡ o → signature_of p.behaviors o ≡ Some g → (e : Effects) → h.handle p c ≡ Done e → h.outcome_of (h.run_handler o p c) ≡ Done e → AreTyped (signatures p) g c e
  handler_there b is None at signed e whole done = absurd cc
  handler_there b is (Some q) at signed e whole done = ran b is q at signed e whole done

  behavior_there : (o : Option Behavior) → slice_get p.behaviors c.behavior ≡ o → signature_in p.behaviors o c.handler ≡ Some g → (e : Effects) → h.handle p c ≡ Done e → h.outcome_of (h.run_in_behavior o p c) ≡ Done e → AreTyped (signatures p) g c e
  behavior_there None is signed e whole done = absurd cc
  behavior_there (Some b) is signed e whole done = handler_there b is (slice_get (handlers_of b) c.handler) refl signed e whole done

  -- no handler that is declared has the number of `migrate`
  no_migrate : (o : Option Behavior) → slice_get p.behaviors c.behavior ≡ o → signature_in p.behaviors o c.handler ≡ Some g → c.handler ≡ MIGRATE → ⊥
  no_migrate None is signed e = let f : ◌≡◌ {A = Option Signature} None (Some g) = signed in absurd cc
  no_migrate (Some b) is signed e =
      let few = ((programs_have_parts p a.typed).behaviors c.behavior b is).few_handlers in
      let none : slice_get (handlers_of b) c.handler ≡ None = past_end (handlers_of b) 64 c.handler few (omega (arith, e)) in
      let f : ◌≡◌ {A = Option Signature} None (Some g) = sym (ap (signature_of p.behaviors) none) ∙ signed in absurd cc

  declared : signature_in p.behaviors (slice_get p.behaviors c.behavior) c.handler ≡ Some g → (e : Effects) → h.handle p c ≡ Done e → AreTyped (signatures p) g c e
  unfolding h.handle
  declared signed e whole = late (nat_lt LAST_SERIAL c.serial) whole
    where
      here : (b : Bool) → nat_eq c.handler MIGRATE ≡ b → h.outcome_of (if b then h.run_migrate c else h.run_in_behavior (slice_get p.behaviors c.behavior) p c) ≡ Done e → AreTyped (signatures p) g c e
      here true t d = absurd (no_migrate (slice_get p.behaviors c.behavior) refl signed (eqb-true c.handler MIGRATE t))
      here false t d = behavior_there (slice_get p.behaviors c.behavior) refl signed e whole d

      late : (b : Bool) → h.outcome_of (if b then Err TooManyMessages else h.run_called p c) ≡ Done e → AreTyped (signatures p) g c e
      late true d = absurd cc
      late false d = here (nat_eq c.handler MIGRATE) refl d

-- of every accepted program
pub handlers_keep : (p : Program) → IsAccepted p → HandlersKeepTypes (signatures p) (h.handle p)
handlers_keep p a g c e call done = by call.signature
  where
    by : IsCalled (signatures p) g c.behavior c.handler → AreTyped (signatures p) g c e
    by (inl k) = subst (λ s. AreTyped (signatures p) s c e) k.1 (migrate_typed p c e (subst (λ s. IsTypedCall (signatures p) s c) (sym k.1) call) k.0 done)
    by (inr k) = declared p a g c call k e done
