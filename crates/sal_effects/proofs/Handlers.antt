-- What handlers do as a whole.
use Rattle.std.proofs.Common.{◌≡◌, ℕ, zero, suc, ◌+◌, ◌<◌, ◌⊎◌, inl, inr, Bool, true, false, ◌&&◌, if◌then◌else◌, List, [], ◌∷◌, length, map, Option, Some, None, Ok, Err, refl, subst, arith}
use Rattle.std.specs.Prelude.{slice_get, slice_set, nat_lt, nat_eq, filter_map}
use Rattle.std.specs.List.{list_all}
use Rattle.sal_value.specs.declared.name.Ual.{Ual}
use Rattle.sal_value.specs.declared.value.Value.{Value}
use Rattle.sal_value.specs.declared.value.Value.TheVariants as val
use Rattle.sal_value.specs.Names.{ual_of}
use Rattle.sal_ast.specs.declared.expression.Expr.{Expr}
use Rattle.sal_ast.specs.declared.program.Param.{Param}
use Rattle.sal_ast.specs.declared.program.Member.{Member}
use Rattle.sal_ast.specs.declared.program.Member.TheVariants as member
use Rattle.sal_ast.specs.declared.program.Behavior.{Behavior}
use Rattle.sal_ast.specs.declared.program.Program.{Program}
use Rattle.sal_ast.specs.Members.{Field, Handler, as_field, as_handler, as_constructor, fields_of, handlers_of, constructor_of}
use Rattle.sal_ast.specs.Regular as regular
use Rattle.sal_mail.specs.declared.fault.Trap.TheVariants.{TooManyMessages}
use Rattle.sal_mail.specs.declared.effects.Effects.{Effects}
use Rattle.sal_handler.specs.declared.state.Flow.{Flow}
use Rattle.sal_handler.specs.declared.state.Flow.TheVariants.{Next}
use Rattle.sal_handler.specs.declared.state.Local.{Local}
use Rattle.sal_handler.specs.declared.state.State.{State}
use Rattle.sal_handler.specs.declared.turn.Outcome.TheVariants.{Done}
use Rattle.sal_handler.specs.Calls.{Call}
use Rattle.sal_handler.specs.Evaluation.{OrTrap, and_then}
use Rattle.sal_handler.specs.Scopes.{Context, fresh_name}
use Rattle.sal_handler.specs.Expressions.{eval}
use Rattle.sal_handler.specs.Statements.{exec_block}
use Rattle.sal_handler.specs.Handler as h
use Rattle.sal_handler.specs.Handler.{handle}
use Rattle.sal_handler.specs.WellFormed.{EachOf}
use Rattle.sal_handler.proofs.After.{After}
use Rattle.sal_handler.proofs.Induction.{IfAny}
use Rattle.sal_handler.proofs.Addresses.{each_front, each_back}
use Rattle.sal_effects.specs.Texts.{all_texts, option_texts, body_texts, member_texts, behavior_texts, program_texts}
use Rattle.sal_effects.proofs.Changes.{LocalOk, Law}
use Rattle.sal_effects.proofs.Sorts.{type_good}
use Rattle.sal_effects.proofs.Values as x
use Rattle.sal_effects.proofs.Values.{Able, Given, Gives, KeptIn, Makes, gives_pure, gives_then}
use Rattle.sal_effects.proofs.Running.{each_set, Left, body_runs}

-- ---- the parts of a program

split : (a b : Bool) → a && b ≡ true → (a ≡ true) × (b ≡ true)
split true b e = (refl, e)
split false b e = absurd cc

pub each_got : {X : Type 0} (P : X → Type 0) (xs : List X) (i : ℕ) → EachOf P xs → IfAny P (slice_get xs i)
each_got P [] i e = tt
each_got P (x ∷ xs) zero e = e.0
each_got P (x ∷ xs) (suc i) e = each_got P xs i e.1

module _ (L : List ℕ → Type 0) (Whole : Type 0) where
  -- of a body, and of an initialiser
  pub record BodyOk (c : Handler) : Type 0 where
    pub texts : EachOf L (body_texts c.body)
    pub whole : Whole → regular.block_is_regular c.body ≡ true

  abbrev pub FieldOk : Field → Type 0
  FieldOk f = EachOf L (option_texts f.init)

  fields_ok : (ms : List Member) → EachOf L (all_texts (map member_texts ms)) → EachOf FieldOk (filter_map as_field ms)
  fields_ok [] g = tt
  fields_ok (member.Field sort name init ∷ ms) g = (each_front L (option_texts init) (all_texts (map member_texts ms)) g, fields_ok ms (each_back L (option_texts init) (all_texts (map member_texts ms)) g))
  fields_ok (member.Constructor name params body ∷ ms) g = fields_ok ms (each_back L (body_texts body) (all_texts (map member_texts ms)) g)
  fields_ok (member.Handler result name params body ∷ ms) g = fields_ok ms (each_back L (body_texts body) (all_texts (map member_texts ms)) g)

  handlers_ok : (ms : List Member) → EachOf L (all_texts (map member_texts ms)) → (Whole → list_all regular.member_is_regular ms ≡ true) → EachOf BodyOk (filter_map as_handler ms)
  handlers_ok [] g q = tt
  handlers_ok (member.Field sort name init ∷ ms) g q = handlers_ok ms (each_back L (option_texts init) (all_texts (map member_texts ms)) g) (λ y. (split (regular.option_is_regular init) (list_all regular.member_is_regular ms) (q y)).1)
  handlers_ok (member.Constructor name params body ∷ ms) g q = handlers_ok ms (each_back L (body_texts body) (all_texts (map member_texts ms)) g) (λ y. (split (regular.block_is_regular body) (list_all regular.member_is_regular ms) (q y)).1)
  handlers_ok (member.Handler result name params body ∷ ms) g q = (
    record { texts = each_front L (body_texts body) (all_texts (map member_texts ms)) g; whole = λ y. (split (regular.block_is_regular body) (list_all regular.member_is_regular ms) (q y)).0 },
    handlers_ok ms (each_back L (body_texts body) (all_texts (map member_texts ms)) g) (λ y. (split (regular.block_is_regular body) (list_all regular.member_is_regular ms) (q y)).1),
  )

  constructors_ok : (ms : List Member) → EachOf L (all_texts (map member_texts ms)) → (Whole → list_all regular.member_is_regular ms ≡ true) → EachOf BodyOk (filter_map as_constructor ms)
  constructors_ok [] g q = tt
  constructors_ok (member.Field sort name init ∷ ms) g q = constructors_ok ms (each_back L (option_texts init) (all_texts (map member_texts ms)) g) (λ y. (split (regular.option_is_regular init) (list_all regular.member_is_regular ms) (q y)).1)
  constructors_ok (member.Handler result name params body ∷ ms) g q = constructors_ok ms (each_back L (body_texts body) (all_texts (map member_texts ms)) g) (λ y. (split (regular.block_is_regular body) (list_all regular.member_is_regular ms) (q y)).1)
  constructors_ok (member.Constructor name params body ∷ ms) g q = (
    record { texts = each_front L (body_texts body) (all_texts (map member_texts ms)) g; whole = λ y. (split (regular.block_is_regular body) (list_all regular.member_is_regular ms) (q y)).0 },
    constructors_ok ms (each_back L (body_texts body) (all_texts (map member_texts ms)) g) (λ y. (split (regular.block_is_regular body) (list_all regular.member_is_regular ms) (q y)).1),
  )

  pub record BehaviorOk (b : Behavior) : Type 0 where
    pub fields : EachOf FieldOk (fields_of b)
    pub handlers : EachOf BodyOk (handlers_of b)
    pub made : IfAny BodyOk (constructor_of b)

  behavior_ok : (b : Behavior) → EachOf L (behavior_texts b) → (Whole → regular.behavior_is_regular b ≡ true) → BehaviorOk b
  unfolding fields_of handlers_of constructor_of
  behavior_ok b g q = record { fields = fields_ok b.members g; handlers = handlers_ok b.members g q; made = each_got BodyOk (filter_map as_constructor b.members) 0 (constructors_ok b.members g q) }

  behaviors_ok : (bs : List Behavior) → EachOf L (all_texts (map behavior_texts bs)) → (Whole → list_all regular.behavior_is_regular bs ≡ true) → EachOf BehaviorOk bs
  behaviors_ok [] g q = tt
  behaviors_ok (b ∷ bs) g q = (
    behavior_ok b (each_front L (behavior_texts b) (all_texts (map behavior_texts bs)) g) (λ y. (split (regular.behavior_is_regular b) (list_all regular.behavior_is_regular bs) (q y)).0),
    behaviors_ok bs (each_back L (behavior_texts b) (all_texts (map behavior_texts bs)) g) (λ y. (split (regular.behavior_is_regular b) (list_all regular.behavior_is_regular bs) (q y)).1),
  )

  -- what is asked of a program
  pub record ProgramOk (p : Program) : Type 0 where
    pub texts : EachOf L (program_texts p)
    pub whole : Whole → regular.is_regular p ≡ true

  program_ok : (p : Program) → ProgramOk p → EachOf BehaviorOk p.behaviors
  unfolding program_texts regular.is_regular
  program_ok p ok = behaviors_ok p.behaviors ok.texts (λ y. (split (regular.has_any p.behaviors) (list_all regular.behavior_is_regular p.behaviors) (ok.whole y)).1)

  pub behaviors_of : (p : Program) → ProgramOk p → EachOf BehaviorOk p.behaviors
  behaviors_of p ok = program_ok p ok

module _ (law : Law) where
  abbrev V : Value → Type 0
  V = law.values.Holds

  abbrev Any : {A : Type 0} → A → Type 0
  Any a = Unit {0}

  parameters_kept : (behaviors : List Behavior) (mine : ℕ) (ps : List Param) (vs : List Value) → EachOf V vs → EachOf (LocalOk law.values behaviors mine) (h.parameters behaviors ps vs)
  parameters_kept behaviors mine [] vs l = tt
  parameters_kept behaviors mine (p ∷ ps) [] l = (record { held = law.values.null; sort = type_good behaviors mine p.sort }, parameters_kept behaviors mine ps [] tt)
  parameters_kept behaviors mine (p ∷ ps) (v ∷ vs) l = (record { held = l.0; sort = type_good behaviors mine p.sort }, parameters_kept behaviors mine ps vs l.1)

  -- ---- new actors

  -- what is asked of the name that `self` is there, and of those that nobody has
  abbrev Alone : Type 0
  Alone = (behaviors : List Behavior) (n : ℕ) → Able law (h.constructor_context behaviors n)

  module _ (alone : Alone) where
    abbrev OkIn : Behavior → Type 0
    OkIn = BehaviorOk law.values.Literal law.Whole

    abbrev BodyIn : Handler → Type 0
    BodyIn = BodyOk law.values.Literal law.Whole

    initialiser_gives : (o : Option Expr) (i : ℕ) → EachOf law.values.Literal (option_texts o) → (r : Context) → Able law r → Gives law r 0 (Any {A = Unit {0}}) (h.exec_initialiser o i r)
    initialiser_gives None i g r able = gives_pure law r (Any {A = Unit {0}}) tt tt
    initialiser_gives (Some e) i g r able =
        gives_then law r 0 V (Any {A = Unit {0}}) (eval e r) _ (x.eval_gives law e g r able) (λ v l. record {
          at = λ s k. (law.quiet r s s.locals (slice_set s.fields i v) s.turns, (record { locals = k.locals; fields = each_set V s.fields i v k.fields l }, tt));
        })

    initialisers_give : (fs : List Field) (i : ℕ) → EachOf (FieldOk law.values.Literal law.Whole) fs → (r : Context) → Able law r → Gives law r 0 (Any {A = Unit {0}}) (h.exec_initialisers fs i r)
    initialisers_give [] i g r able = gives_pure law r (Any {A = Unit {0}}) tt tt
    initialisers_give (f ∷ fs) i g r able = gives_then law r 0 (Any {A = Unit {0}}) (Any {A = Unit {0}}) (h.exec_initialiser f.init i r) (λ _. h.exec_initialisers fs (i + 1) r) (initialiser_gives f.init i g.0 r able) (λ a q. initialisers_give fs (i + 1) g.1 r able)

    defaults_kept : (fs : List Field) → EachOf V (h.default_fields fs)
    defaults_kept [] = tt
    defaults_kept (f ∷ fs) = (law.values.default f.sort, defaults_kept fs)

    fields_left : {A : Type 0} (P : A → State → Type 0) (o : OrTrap (A × State)) (fields : List Value) → After P o → ((a : A) (t : State) → P a t → EachOf V t.fields) → and_then o (λ x. Ok x.1.fields) ≡ Ok fields → EachOf V fields
    fields_left P (Ok z) fields p f e = let same : z.1.fields ≡ fields = cc in subst (EachOf V) same (f z.0 z.1 p)
    fields_left P (Err k) fields p f e = absurd cc

    initial_kept : (b : Behavior) → OkIn b → (behaviors : List Behavior) (n : ℕ) (fields : List Value) → h.initial_fields b (h.constructor_context behaviors n) ≡ Ok fields → EachOf V fields
    initial_kept b ok behaviors n fields e =
        let r : Context = h.constructor_context behaviors n in
        let u : State = h.initial_state [] (h.default_fields (fields_of b)) 0 in
        fields_left (Given law r 0 (Any {A = Unit {0}}) u) (h.exec_initialisers (fields_of b) 0 r u) fields
        ((initialisers_give (fields_of b) 0 ok.fields r (alone behaviors n)).at u (record { locals = tt; fields = defaults_kept (fields_of b) })) (λ a t z. z.1.0.fields) e

    constructed_kept : (o : Option Handler) → IfAny BodyIn o → (args : List Value) (behaviors : List Behavior) (n : ℕ) (old fields : List Value) → EachOf V args → EachOf V old → h.fields_after_constructor o args (h.constructor_context behaviors n) old ≡ Ok fields → EachOf V fields
    constructed_kept None ok args behaviors n old fields l f e = let same : old ≡ fields = cc in subst (EachOf V) same f
    constructed_kept (Some c) ok args behaviors n old fields l f e =
        let r : Context = h.constructor_context behaviors n in
        let u : State = h.initial_state (h.parameters behaviors c.params args) old 0 in
        fields_left (λ g t. Left law r u g t) (exec_block c.body r u) fields ((body_runs law c.body ok.texts ok.whole r (alone behaviors n)).at u (record { locals = parameters_kept behaviors n c.params args l; fields = f })) (λ a t z. z.kept.fields) e

    with_constructor : (b : Behavior) → OkIn b → (o : Option Handler) → IfAny BodyIn o → (args : List Value) (behaviors : List Behavior) (n : ℕ) (fields : List Value) → EachOf V args
        → and_then (h.initial_fields b (h.constructor_context behaviors n)) (h.fields_after_constructor o args (h.constructor_context behaviors n)) ≡ Ok fields → EachOf V fields
    with_constructor b ok o made args behaviors n fields l e = at (h.initial_fields b (h.constructor_context behaviors n)) (initial_kept b ok behaviors n) e
      where
        at : (q : OrTrap (List Value)) → ((old : List Value) → q ≡ Ok old → EachOf V old) → and_then q (h.fields_after_constructor o args (h.constructor_context behaviors n)) ≡ Ok fields → EachOf V fields
        at (Ok old) good e = constructed_kept o made args behaviors n old fields l (good old refl) e
        at (Err k) good e = absurd cc

    built_kept : (o : Option Behavior) → IfAny OkIn o → (args : List Value) (behaviors : List Behavior) (n : ℕ) (fields : List Value) → EachOf V args → h.new_fields_of o args (h.constructor_context behaviors n) ≡ Ok fields → EachOf V fields
    built_kept None ok args behaviors n fields l e = let same : [] ≡ fields = cc in subst (EachOf V) same tt
    built_kept (Some b) ok args behaviors n fields l e = with_constructor b ok (constructor_of b) ok.made args behaviors n fields l e

    new_kept : (behaviors : List Behavior) → EachOf OkIn behaviors → Makes law (h.new_fields behaviors)
    unfolding h.new_fields
    new_kept behaviors ok n args fields l e = built_kept (slice_get behaviors n) (each_got OkIn behaviors n ok) args behaviors n fields l e

    -- ---- the start

    pub start_kept : (b : Behavior) → OkIn b → (behaviors : List Behavior) (n : ℕ) (fields : List Value) → h.start_fields (Some b) (h.constructor_context behaviors n) ≡ Ok fields → EachOf V fields
    start_kept b ok behaviors n fields e = with_constructor b ok (h.without_params (constructor_of b)) (bare (constructor_of b) ok.made) [] behaviors n fields tt e
      where
        bare : (o : Option Handler) → IfAny BodyIn o → IfAny BodyIn (h.without_params o)
        bare None k = tt
        bare (Some c) k = at c.params
          where
            at : (ps : List Param) → IfAny BodyIn (h.without_params (Some (record { name = c.name; result = c.result; params = ps; body = c.body })))
            at [] = record { texts = k.texts; whole = k.whole }
            at (p ∷ ps) = tt

    -- ---- handlers

    -- what is asked of a call
    pub record CallOk (c : Call) : Type 0 where
      pub fields : EachOf V c.fields
      pub args : EachOf V c.args
      pub me : V (val.Ref c.me)
      pub names : (i : ℕ) → i < 1024 → V (val.Ref (fresh_name c.names i))

    module _ (p : Program) (c : Call) (program : ProgramOk law.values.Literal law.Whole p) (ok : CallOk c) where
      able : Able law (h.handler_context p c)
      able = record { me = ok.me; fresh = ok.names; make = new_kept p.behaviors (behaviors_of law.values.Literal law.Whole p program) }

      -- what was done, from a state in which nothing was done yet
      pub record HasRun (e : Effects) : Type 0 where
        pub locals : List Local
        pub flow : Flow
        pub state : State
        pub left : Left law (h.handler_context p c) (h.initial_state locals c.fields c.serial) flow state
        pub effects : e ≡ h.effects_of flow state c.fresh
        pub behavior : (c.behavior < length p.behaviors) ⊎ (state ≡ h.initial_state locals c.fields c.serial)

      abbrev Ran : OrTrap Effects → Type 0
      Ran (Ok e) = HasRun e
      Ran (Err k) = Unit {0}

      nothing_ran : HasRun (h.no_effects c)
      nothing_ran =
          let u : State = h.initial_state [] c.fields c.serial in
          record { locals = []; flow = Next; state = u; left = record { passes = 0; moved = x.still law (h.handler_context p c) u; kept = record { locals = tt; fields = ok.fields }; flow = refl }; effects = refl; behavior = inr refl }

      handler_ran : (o : Option Handler) → IfAny BodyIn o → c.behavior < length p.behaviors → Ran (h.run_handler o p c)
      handler_ran None l low = nothing_ran
      handler_ran (Some y) l low = at (exec_block y.body (h.handler_context p c) u) refl ((body_runs law y.body l.texts l.whole (h.handler_context p c) able).at u start)
        where
          u : State
          u = h.initial_state (h.parameters p.behaviors y.params c.args) c.fields c.serial

          start : KeptIn law (h.handler_context p c) u
          start = record { locals = parameters_kept p.behaviors c.behavior y.params c.args ok.args; fields = ok.fields }

          at : (o : OrTrap (Flow × State)) → exec_block y.body (h.handler_context p c) u ≡ o → After (λ f t. Left law (h.handler_context p c) u f t) o → Ran (and_then o (λ z. Ok (h.effects_of z.0 z.1 c.fresh)))
          at (Ok z) q l = record { locals = h.parameters p.behaviors y.params c.args; flow = z.0; state = z.1; left = l; effects = refl; behavior = inl low }
          at (Err k) q l = tt

      behavior_ran : (i : ℕ) → i ≡ c.behavior → (o : Option Behavior) → slice_get p.behaviors i ≡ o → IfAny OkIn o → Ran (h.run_in_behavior o p c)
      behavior_ran i same None e l = nothing_ran
      behavior_ran i same (Some b) e l = handler_ran (slice_get (handlers_of b) c.handler) (each_got BodyIn (handlers_of b) c.handler l.handlers) (subst (λ k. k < length p.behaviors) same (there p.behaviors i b e))
        where
          there : (bs : List Behavior) (i : ℕ) (b : Behavior) → slice_get bs i ≡ Some b → i < length bs
          there [] i b e = absurd cc
          there (y ∷ ys) zero b e = omega arith
          there (y ∷ ys) (suc i) b e = let l = there ys i b e in omega (arith, l)

      migrate_ran : (o : Option Ual) → Ran (h.migrate_if_locator o c)
      migrate_ran None = tt
      migrate_ran (Some l) = nothing_ran

      ran : Ran (h.run_if_numbers_left p c)
      ran = late (nat_lt 18446744073709547520 c.serial)
        where
          here : (b : Bool) → Ran (if b then h.run_migrate c else h.run_in_behavior (slice_get p.behaviors c.behavior) p c)
          here true = migrate_ran (ual_of (h.first_text c.args))
          here false = behavior_ran c.behavior refl (slice_get p.behaviors c.behavior) refl (each_got OkIn p.behaviors c.behavior (behaviors_of law.values.Literal law.Whole p program))

          late : (b : Bool) → Ran (if b then Err TooManyMessages else h.run_called p c)
          late true = tt
          late false = here (nat_eq c.handler 65535)

      done : (o : OrTrap Effects) (e : Effects) → Ran o → h.outcome_of o ≡ Done e → HasRun e
      done (Ok y) e l is = let same : y ≡ e = cc in subst HasRun same l
      done (Err k) e l is = absurd cc

      pub has_run : (e : Effects) → handle p c ≡ Done e → HasRun e
      unfolding handle
      has_run e is = done (h.run_if_numbers_left p c) e ran is
