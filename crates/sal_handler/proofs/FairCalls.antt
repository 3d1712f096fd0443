-- The effects of every handler are fair.
use Rattle.std.proofs.Common.{◌≡◌, ℕ, zero, suc, ◌+◌, ◌≤◌, inl, inr, Bool, true, false, if◌then◌else◌, List, [], ◌∷◌, length, map, Option, Some, None, Ok, Err, refl, sym, subst, arith}
use Rattle.std.specs.Prelude.{slice_get, slice_set, nat_lt, nat_eq}
use Rattle.sal_value.specs.declared.name.Ual.{Ual}
use Rattle.sal_value.specs.declared.value.Value.{Value}
use Rattle.sal_value.specs.Names.{ual_of}
use Rattle.sal_value.specs.Spelling.{name_is_spelled}
use Rattle.sal_ast.specs.declared.expression.Expr.{Expr}
use Rattle.sal_ast.specs.declared.program.Param.{Param}
use Rattle.sal_ast.specs.declared.program.Behavior.{Behavior}
use Rattle.sal_ast.specs.declared.program.Program.{Program}
use Rattle.sal_ast.specs.Members.{Field, Handler, fields_of, handlers_of, constructor_of}
use Rattle.sal_mail.specs.declared.fault.Trap.TheVariants.{TooManyMessages}
use Rattle.sal_mail.specs.declared.effects.Effects.{Effects}
use Rattle.sal_mail.specs.ReplyKeys.{reply_key}
use Rattle.sal_handler.specs.declared.state.Flow.{Flow}
use Rattle.sal_handler.specs.declared.state.Flow.TheVariants.{Next, Returned, Passed}
use Rattle.sal_handler.specs.declared.state.Local.{Local}
use Rattle.sal_handler.specs.declared.state.State.{State}
use Rattle.sal_handler.specs.declared.turn.Outcome.TheVariants.{Done}
use Rattle.sal_handler.specs.Calls.{Call}
use Rattle.sal_handler.specs.Evaluation.{OrTrap, and_then}
use Rattle.sal_handler.specs.Scopes.{Context}
use Rattle.sal_handler.specs.Expressions.{eval}
use Rattle.sal_handler.specs.Statements.{exec_block}
use Rattle.sal_handler.specs.Handler as h
use Rattle.sal_handler.specs.WellFormed.{EachOf, IsAmong, concat_sizes, Legal, WaitsWithin, IsLegalPiece, IsGoodMessage, body_sizes, program_sizes, times_owed_by, passes, IsOldReply, IsOrderly, HandlersAreOrderly, HandlersAreWellFormed}
use Rattle.sal_handler.proofs.After.{After}
use Rattle.sal_handler.proofs.Induction.{IfAny}
use Rattle.sal_handler.proofs.Lawful.{Lawful, lawful_null, default_lawful}
use Rattle.sal_handler.proofs.Sound as d
use Rattle.sal_handler.proofs.Sound.{Able, MakesLegal, IsGoodLocal}
use Rattle.sal_handler.proofs.FairExpressions as x
use Rattle.sal_handler.proofs.FairJoins.{exit, FlowOk}
use Rattle.sal_handler.proofs.FairStatements as s
use Rattle.sal_handler.proofs.FairStatements.{each_set, set_length}
use Rattle.sal_handler.proofs.FairHandlers.{block_fair}
use Rattle.sal_value.specs.declared.name.Name.{Name}
use Rattle.sal_mail.specs.declared.message.Piece.{Piece}
use Rattle.sal_mail.specs.declared.message.Piece.TheVariants.{Known, Token}
use Rattle.sal_mail.specs.declared.message.Reply.{Reply}
use Rattle.sal_mail.specs.declared.message.Message.{Message}
use Rattle.sal_handler.proofs.Addresses.{each_more, each_front, each_back}

-- each of these numbers is among the sizes
abbrev In : List ℕ → List ℕ → Type 0
In sizes = EachOf (λ n. IsAmong n sizes)

each_itself : (xs : List ℕ) → In xs xs
each_itself [] = tt
each_itself (x ∷ xs) = (inl refl, each_more (λ n. IsAmong n xs) (λ n. IsAmong n (x ∷ xs)) xs (λ n h. inr h) (each_itself xs))

module _ (Asked : Type 0) where
  -- ---- how a body starts

  parameters_good : (from to : ℕ) (behaviors : List Behavior) (ps : List Param) (vs : List Value) → EachOf (Lawful Asked) vs → EachOf (IsGoodLocal Asked from to) (h.parameters behaviors ps vs)
  parameters_good from to behaviors [] vs l = tt
  parameters_good from to behaviors (p ∷ ps) [] l = (lawful_null Asked, parameters_good from to behaviors ps [] tt)
  parameters_good from to behaviors (p ∷ ps) (v ∷ vs) l = (l.0, parameters_good from to behaviors ps vs l.1)

  start_sound : (sizes : List ℕ) (from : ℕ) (r : Context) (locals : List Local) (fields : List Value) → r.within ≡ [] → EachOf (IsGoodLocal Asked from from) locals → EachOf (Lawful Asked) fields → d.Sound Asked from sizes (length fields) r 0 (h.initial_state locals fields from)
  start_sound sizes from r locals fields e l f = record {
    low = omega arith;
    once = λ k. omega arith;
    below = λ k le. refl;
    above = λ k le. refl;
    owed_once = λ a some. omega arith;
    new_tokens = λ k le. refl;
    new_places = λ k i le. refl;
    next_places = subst (λ is. d.NextPlaces Asked from sizes (length fields) is r.me (h.initial_state locals fields from)) (sym e) tt;
    caller = λ some. omega arith;
    within = subst (EachOf (d.IsGoodInside from from)) (sym e) tt;
    locals = l;
    messages = tt;
    joins = tt;
    names = tt;
    actors = tt;
    creations = tt;
    fields = f;
    count = refl;
  }

  -- ---- new actors

  alone_able : (behaviors : List Behavior) (n : ℕ) → Able Asked 0 (h.constructor_context behaviors n)
  unfolding name_is_spelled
  alone_able behaviors n = record { me = λ q. refl; fresh = λ q. tt; reply = tt; make = tt }

  module _ (sizes : List ℕ) (width : ℕ) where
    abbrev Keeps : Context → State → OrTrap (Unit {0} × State) → Type 0
    Keeps r u o = d.FairAt Asked 0 sizes width {A = Unit {0}} r (λ a. 0) (s.Done Asked 0 sizes width) u o

    one_initialised : (o : Option Expr) (i : ℕ) (r : Context) → Able Asked 0 r → (u : State) → d.Sound Asked 0 sizes width r 0 u → Keeps r u (h.exec_initialiser o i r u)
    one_initialised None i r able u k = d.fair_pure Asked 0 sizes width r (λ (a : Unit {0}). 0) (s.Done Asked 0 sizes width) u tt k tt
    one_initialised (Some e) i r able u k =
        x.keeps_then Asked 0 sizes width r 0 (s.OfValue Asked 0 sizes width) (λ (a : Unit {0}). 0) (s.Done Asked 0 sizes width) u (eval e r) _ (x.eval_fair Asked 0 sizes width e r 0 able u k) (λ v w mv j l.
        record { holds = (record { sound = d.sound_fields Asked 0 sizes width r 0 w (slice_set w.fields i v) j (each_set (Lawful Asked) w.fields i v j.fields l) (set_length w.fields i v); moves = d.moves_quiet Asked 0 sizes width r w (d.with_fields Asked 0 sizes width (slice_set w.fields i v) w) (omega arith) refl (λ a. refl) }, tt) })

    initialised_fair : (fs : List Field) (i : ℕ) (r : Context) → Able Asked 0 r → (u : State) → d.Sound Asked 0 sizes width r 0 u → Keeps r u (h.exec_initialisers fs i r u)
    initialised_fair [] i r able u k = d.fair_pure Asked 0 sizes width r (λ (a : Unit {0}). 0) (s.Done Asked 0 sizes width) u tt k tt
    initialised_fair (f ∷ fs) i r able u k =
        x.keeps_then Asked 0 sizes width r 0 (s.Done Asked 0 sizes width) (λ (a : Unit {0}). 0) (s.Done Asked 0 sizes width) u (h.exec_initialiser f.init i r) (λ _. h.exec_initialisers fs (i + 1) r) (one_initialised f.init i r able u k) (λ a w mv j q. initialised_fair fs (i + 1) r able w j)

  defaults_legal : (fs : List Field) → EachOf (Lawful Asked) (h.default_fields fs)
  defaults_legal [] = tt
  defaults_legal (f ∷ fs) = (default_lawful Asked f.sort, defaults_legal fs)

  -- what is left of a part is legal
  fields_left : {A : Type 0} (P : A → State → Type 0) (o : OrTrap (A × State)) (fields : List Value) → After P o → ((a : A) (t : State) → P a t → EachOf (Lawful Asked) t.fields) → and_then o (λ x. Ok x.1.fields) ≡ Ok fields → EachOf (Lawful Asked) fields
  fields_left P (Ok z) fields p f e = let same : z.1.fields ≡ fields = cc in subst (EachOf (Lawful Asked)) same (f z.0 z.1 p)
  fields_left P (Err k) fields p f e = absurd cc

  initial_legal : (b : Behavior) (behaviors : List Behavior) (n : ℕ) (fields : List Value) → h.initial_fields b (h.constructor_context behaviors n) ≡ Ok fields → EachOf (Lawful Asked) fields
  initial_legal b behaviors n fields e =
      let start = start_sound [] 0 (h.constructor_context behaviors n) [] (h.default_fields (fields_of b)) refl tt (defaults_legal (fields_of b)) in
      fields_left _ (h.exec_initialisers (fields_of b) 0 (h.constructor_context behaviors n) (h.initial_state [] (h.default_fields (fields_of b)) 0)) fields
      (initialised_fair [] (length (h.default_fields (fields_of b))) (fields_of b) 0 (h.constructor_context behaviors n) (alone_able behaviors n) (h.initial_state [] (h.default_fields (fields_of b)) 0) start).holds (λ a t z. z.0.sound.fields) e

  constructed_legal : (o : Option Handler) (args : List Value) (behaviors : List Behavior) (n : ℕ) (old fields : List Value) → EachOf (Lawful Asked) args → EachOf (Lawful Asked) old → h.fields_after_constructor o args (h.constructor_context behaviors n) old ≡ Ok fields → EachOf (Lawful Asked) fields
  constructed_legal None args behaviors n old fields l f e = let same : old ≡ fields = cc in subst (EachOf (Lawful Asked)) same f
  constructed_legal (Some c) args behaviors n old fields l f e =
      let r : Context = h.constructor_context behaviors n in
      let u : State = h.initial_state (h.parameters behaviors c.params args) old 0 in
      let start = start_sound (body_sizes c.body) 0 r (h.parameters behaviors c.params args) old refl (parameters_good 0 0 behaviors c.params args l) f in
      fields_left _ (exec_block c.body r u) fields (block_fair Asked 0 (body_sizes c.body) (length old) c.body (each_itself (body_sizes c.body)) r 0 (λ q. refl) (alone_able behaviors n) u start).holds (λ a t z. z.0.sound.fields) e

  built_legal : (o : Option Behavior) (args : List Value) (behaviors : List Behavior) (n : ℕ) (fields : List Value) → EachOf (Lawful Asked) args → h.new_fields_of o args (h.constructor_context behaviors n) ≡ Ok fields → EachOf (Lawful Asked) fields
  built_legal None args behaviors n fields l e = let same : [] ≡ fields = cc in subst (EachOf (Lawful Asked)) same tt
  built_legal (Some b) args behaviors n fields l e = at (h.initial_fields b (h.constructor_context behaviors n)) (initial_legal b behaviors n) e
    where
      at : (o : OrTrap (List Value)) → ((old : List Value) → o ≡ Ok old → EachOf (Lawful Asked) old) → and_then o (h.fields_after_constructor (constructor_of b) args (h.constructor_context behaviors n)) ≡ Ok fields → EachOf (Lawful Asked) fields
      at (Ok old) good e = constructed_legal (constructor_of b) args behaviors n old fields l (good old refl) e
      at (Err k) good e = absurd cc

  new_legal : (behaviors : List Behavior) → MakesLegal Asked (h.new_fields behaviors)
  unfolding h.new_fields
  new_legal behaviors n args fields l e = built_legal (slice_get behaviors n) args behaviors n fields l e

  -- ---- handlers

  -- what holds of all holds of each
  sizes_at : {X : Type 0} (f : X → List ℕ) (sizes : List ℕ) (xs : List X) (i : ℕ) → In sizes (concat_sizes (map f xs)) → IfAny (λ x. In sizes (f x)) (slice_get xs i)
  sizes_at f sizes [] i l = tt
  sizes_at f sizes (x ∷ xs) zero l = each_front (λ n. IsAmong n sizes) (f x) (concat_sizes (map f xs)) l
  sizes_at f sizes (x ∷ xs) (suc i) l = sizes_at f sizes xs i (each_back (λ n. IsAmong n sizes) (f x) (concat_sizes (map f xs)) l)

  -- a call with an old reply, and what is legal where that is asked for
  record IsSoundFor (c : Call) : Type 0 where
    fields : EachOf (Lawful Asked) c.fields
    args : EachOf (Lawful Asked) c.args
    reply : IsOldReply c.me c.serial c.reply
    me : Asked → name_is_spelled c.me ≡ true
    names : Asked → EachOf (λ n. name_is_spelled n ≡ true) c.names

  abbrev IsLawfulPiece : Piece → Type 0
  IsLawfulPiece (Known v) = Lawful Asked v
  IsLawfulPiece (Token n) = Unit {0}

  record IsFairFor (sizes : List ℕ) (c : Call) (e : Effects) : Type 0 where
    order : IsOrderly sizes c e
    args : EachOf (λ m. EachOf IsLawfulPiece m.args) e.messages
    actors : EachOf (λ a. EachOf (Lawful Asked) a.fields) e.actors
    creations : EachOf (λ x. EachOf (Lawful Asked) x.fields) e.creations
    fields : EachOf (Lawful Asked) e.fields

  waits : (from to : ℕ) (y : Piece) → d.IsGoodPiece Asked from to y → WaitsWithin from to y
  waits from to (Known v) g = tt
  waits from to (Token n) g = g

  lawful_piece : (from to : ℕ) (y : Piece) → d.IsGoodPiece Asked from to y → IsLawfulPiece y
  lawful_piece from to (Known v) g = g
  lawful_piece from to (Token n) g = tt

  ordered : (me : Name) (caller : Reply) (from to : ℕ) (sizes : List ℕ) (m : Message) → d.IsGoodMessage Asked me caller from to sizes m → IsGoodMessage me caller from to sizes m
  ordered me caller from to sizes m g = record {
    maker = g.maker;
    args = each_more (d.IsGoodPiece Asked from to) (WaitsWithin from to) m.args (waits from to) g.args;
    size = g.size;
    after = g.after;
    reply = g.reply;
  }

  module _ (p : Program) (c : Call) (sound : IsSoundFor c) where
    able : Able Asked c.serial (h.handler_context p c)
    able = record { me = sound.me; fresh = sound.names; reply = sound.reply; make = new_legal p.behaviors }

    from_state : (sizes : List ℕ) (f : Flow) (t : State) → d.Sound Asked c.serial sizes (length c.fields) (h.handler_context p c) (exit Asked c.serial sizes (length c.fields) 0 f) t → IsFairFor sizes c (h.effects_of f t c.fresh)
    from_state sizes f t k = record {
      order = record {
        rises = k.low;
        once = k.once;
        low = k.below;
        high = k.above;
        messages = each_more (d.IsGoodMessage Asked c.me c.reply c.serial t.serial sizes) (IsGoodMessage c.me c.reply c.serial t.serial sizes) t.messages (ordered c.me c.reply c.serial t.serial sizes) k.messages;
        joins = k.joins;
        owed_once = k.owed_once;
        passed = λ some. passed f (k.caller some);
        names = k.names;
        count = k.count;
      };
      args = each_more (d.IsGoodMessage Asked c.me c.reply c.serial t.serial sizes) (λ m. EachOf IsLawfulPiece m.args) t.messages (λ m g. each_more (d.IsGoodPiece Asked c.serial t.serial) IsLawfulPiece m.args (lawful_piece c.serial t.serial) g.args) k.messages;
      actors = k.actors;
      creations = k.creations;
      fields = k.fields;
    }
      where
        passed : (f : Flow) → times_owed_by (reply_key c.reply) t.messages t.joins ≤ exit Asked c.serial sizes (length c.fields) 0 f → times_owed_by (reply_key c.reply) t.messages t.joins ≤ passes (h.answer_of_flow f)
        passed Next l = l
        passed (Returned v) l = l
        passed Passed l = omega (arith, l)

    unchanged_fair : (sizes : List ℕ) → IsFairFor sizes c (h.no_effects c)
    unchanged_fair sizes = from_state sizes Next (h.initial_state [] c.fields c.serial) (start_sound sizes c.serial (h.handler_context p c) [] c.fields refl tt sound.fields)

    abbrev Leaves : List ℕ → OrTrap Effects → Type 0
    Leaves sizes (Ok e) = IsFairFor sizes c e
    Leaves sizes (Err k) = Unit {0}

    ran_fair : (sizes : List ℕ) (o : Option Handler) → IfAny (λ x. In sizes (body_sizes x.body)) o → Leaves sizes (h.run_handler o p c)
    ran_fair sizes None l = unchanged_fair sizes
    ran_fair sizes (Some x) l = at (exec_block x.body (h.handler_context p c) u) (block_fair Asked c.serial sizes (length c.fields) x.body l (h.handler_context p c) 0 (λ q. refl) able u start).holds
      where
        u : State
        u = h.initial_state (h.parameters p.behaviors x.params c.args) c.fields c.serial

        start : d.Sound Asked c.serial sizes (length c.fields) (h.handler_context p c) 0 u
        start = start_sound sizes c.serial (h.handler_context p c) (h.parameters p.behaviors x.params c.args) c.fields refl (parameters_good c.serial c.serial p.behaviors x.params c.args sound.args) sound.fields

        at : (o : OrTrap (Flow × State)) → After (λ f t. d.Reach Asked c.serial sizes (length c.fields) (h.handler_context p c) (exit Asked c.serial sizes (length c.fields) 0 f) u t × FlowOk Asked c.serial sizes (length c.fields) (h.handler_context p c) f t) o → Leaves sizes (and_then o (λ z. Ok (h.effects_of z.0 z.1 c.fresh)))
        at (Ok z) r = from_state sizes z.0 z.1 r.0.sound
        at (Err k) r = tt

    ran_in_fair : (sizes : List ℕ) (o : Option Behavior) → IfAny (λ b. In sizes (concat_sizes (map (λ x. body_sizes x.body) (handlers_of b)))) o → Leaves sizes (h.run_in_behavior o p c)
    ran_in_fair sizes None l = unchanged_fair sizes
    ran_in_fair sizes (Some b) l = ran_fair sizes (slice_get (handlers_of b) c.handler) (sizes_at (λ x. body_sizes x.body) sizes (handlers_of b) c.handler l)

    moved_fair : (sizes : List ℕ) (o : Option Ual) → Leaves sizes (h.migrate_if_locator o c)
    moved_fair sizes None = tt
    moved_fair sizes (Some l) = unchanged_fair sizes

    run_fair : Leaves (program_sizes p) (h.run_if_numbers_left p c)
    unfolding program_sizes
    run_fair = late (nat_lt 18446744073709547520 c.serial)
      where
        here : (b : Bool) → Leaves (program_sizes p) (if b then h.run_migrate c else h.run_in_behavior (slice_get p.behaviors c.behavior) p c)
        here true = moved_fair (program_sizes p) (ual_of (h.first_text c.args))
        here false = ran_in_fair (program_sizes p) (slice_get p.behaviors c.behavior) (sizes_at (λ b. concat_sizes (map (λ x. body_sizes x.body) (handlers_of b))) (program_sizes p) p.behaviors c.behavior (each_itself (program_sizes p)))

        late : (b : Bool) → Leaves (program_sizes p) (if b then Err TooManyMessages else h.run_called p c)
        late true = tt
        late false = here (nat_eq c.handler 65535)

    done_fair : (o : OrTrap Effects) (e : Effects) → Leaves (program_sizes p) o → h.outcome_of o ≡ Done e → IsFairFor (program_sizes p) c e
    done_fair (Ok y) e l is = let same : y ≡ e = cc in subst (IsFairFor (program_sizes p) c) same l
    done_fair (Err k) e l is = absurd cc

-- ---- the laws

-- where it is not asked for, all is legal
unasked : (vs : List Value) → EachOf (Lawful ⊥) vs
unasked [] = tt
unasked (v ∷ vs) = (λ q. absurd q, unasked vs)

-- where it is asked for, it is known
known : (vs : List Value) → EachOf (Lawful (Unit {0})) vs → EachOf Legal vs
known vs l = each_more (Lawful (Unit {0})) Legal vs (λ v z. z tt) l

asked : (vs : List Value) → EachOf Legal vs → EachOf (Lawful (Unit {0})) vs
asked vs l = each_more Legal (Lawful (Unit {0})) vs (λ v z. λ q. z) l

legal_piece : (y : Piece) → IsLawfulPiece (Unit {0}) y → IsLegalPiece y
legal_piece (Known v) g = g tt
legal_piece (Token n) g = tt

pub handlers_orderly : HandlersAreOrderly
unfolding h.handle
handlers_orderly p c e old is =
    let sound : IsSoundFor ⊥ c = record { fields = unasked c.fields; args = unasked c.args; reply = old; me = λ q. absurd q; names = λ q. absurd q } in
    (done_fair ⊥ p c sound (h.run_if_numbers_left p c) e (run_fair ⊥ p c sound) is).order

pub handlers_fair : HandlersAreWellFormed
unfolding h.handle
handlers_fair p c e good is =
    let sound : IsSoundFor (Unit {0}) c = record { fields = asked c.fields good.fields; args = asked c.args good.args; reply = good.reply; me = λ q. good.me; names = λ q. good.names } in
    let fair = done_fair (Unit {0}) p c sound (h.run_if_numbers_left p c) e (run_fair (Unit {0}) p c sound) is in
    record {
      order = fair.order;
      args = each_more (λ m. EachOf (IsLawfulPiece (Unit {0})) m.args) (λ m. EachOf IsLegalPiece m.args) e.messages (λ m g. each_more (IsLawfulPiece (Unit {0})) IsLegalPiece m.args legal_piece g) fair.args;
      actors = each_more (λ a. EachOf (Lawful (Unit {0})) a.fields) (λ a. EachOf Legal a.fields) e.actors (λ a l. known a.fields l) fair.actors;
      creations = each_more (λ x. EachOf (Lawful (Unit {0})) x.fields) (λ x. EachOf Legal x.fields) e.creations (λ x l. known x.fields l) fair.creations;
      fields = known e.fields fair.fields;
    }
