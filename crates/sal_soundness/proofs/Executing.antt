-- Scopes: what a statement declares goes on from the scope before it, and leaving a scope goes back to that.
use Rattle.std.proofs.Common.{◌≡◌, ℕ, zero, suc, ◌+◌, Bool, true, false, if◌then◌else◌, List, [], ◌∷◌, ◌++◌, length, map, take, Option, Some, None, Ok, Err, refl, sym, ap, subst, ◌∙◌, append_assoc}
use Rattle.sal_value.specs.declared.value.Sort.{Sort}
use Rattle.std.specs.Prelude.{nat_lt}
use Rattle.sal_value.specs.declared.value.Value.{Value}
use Rattle.sal_value.specs.declared.value.Value.TheVariants.{Null}
use Rattle.sal_mail.specs.declared.fault.Trap.TheVariants.{TooManyTurns}
use Rattle.sal_ast.specs.declared.statement.Declare.{Declare}
use Rattle.sal_mail.specs.declared.message.Reply.TheVariants.{Tok}
use Rattle.sal_handler.specs.declared.state.End.TheVariants as end
use Rattle.sal_handler.specs.declared.state.Content.TheVariants as held
use Rattle.sal_handler.proofs.Addresses.{each_append}
use Rattle.sal_handler.specs.Values.{is_true, default_of}
use Rattle.sal_handler.specs.Expressions.{eval}
use Rattle.sal_ast.specs.declared.expression.Expr.{Expr}
use Rattle.sal_ast.specs.declared.program.Behavior.{Behavior}
use Rattle.sal_ast.specs.Sorts.{Scope, Variable, type_sort}
use Rattle.sal_mail.specs.declared.message.Reply.{Reply}
use Rattle.sal_handler.specs.declared.state.Flow.{Flow}
use Rattle.sal_handler.specs.declared.state.Flow.TheVariants.{Next, Returned, Passed}
use Rattle.sal_handler.specs.declared.state.Local.{Local}
use Rattle.sal_handler.specs.declared.state.State.{State}
use Rattle.sal_handler.specs.Evaluation.{OrTrap, and_then, Eval, ◌>>=◌, ◌>>◌, pure}
use Rattle.sal_handler.specs.Scopes as c
use Rattle.sal_handler.specs.Scopes.{Context, scope_of, token_in}
use Rattle.sal_handler.specs.Statements as t
use Rattle.sal_handler.specs.WellFormed.{EachOf}
use Rattle.sal_handler.proofs.After.{After, then_after, after_more}
use Rattle.sal_types.specs.declared.signature.Signature.{Signature}
use Rattle.sal_fitting.specs.Signatures.{Signatures}
use Rattle.sal_preservation.proofs.Judged.{Kind, Assignable}
use Rattle.sal_preservation.specs.States.{IsOf as Has, HoldsSort as ContentOf}
use Rattle.sal_preservation.proofs.Expressions.{Belongs}
use Rattle.sal_soundness.proofs.Anywhere.{Judgement, Can, assigned}
use Rattle.sal_soundness.proofs.Sending.{Sorts, FlowOk, AreLocals, Holds, Within, ChainOf, Chained, chain_held, eval_held}

take_front : {A : Type 0} (xs ys : List A) → take (length xs) (xs ++ ys) ≡ xs
take_front [] ys = refl
take_front (x ∷ xs) ys = ap (λ z. x ∷ z) (take_front xs ys)

take_map : {A B : Type 0} (f : A → B) (n : ℕ) (xs : List A) → map f (take n xs) ≡ take n (map f xs)
take_map f zero xs = refl
take_map f (suc n) [] = refl
take_map f (suc n) (x ∷ xs) = ap (λ z. f x ∷ z) (take_map f n xs)

take_each : {A : Type 0} (P : A → Type 0) (n : ℕ) (xs : List A) → EachOf P xs → EachOf P (take n xs)
take_each P zero xs h = tt
take_each P (suc n) [] h = tt
take_each P (suc n) (x ∷ xs) h = (h.0, take_each P n xs h.1)

length_map : {A B : Type 0} (f : A → B) (xs : List A) → length (map f xs) ≡ length xs
length_map f [] = refl
length_map f (x ∷ xs) = ap suc (length_map f xs)

module _ (bs : List Behavior) (sigs : Signatures) (g : Signature) (from : ℕ) (r : Context) (item : Option Sort) where
  abbrev pub Locals : Sorts → List (Option Sort) → List Local → Type 0
  Locals sorts = AreLocals bs sigs g from sorts r

  abbrev pub Held : Scope → List (Option Sort) → Sorts → State → Type 0
  Held env ks = Holds bs sigs g from r env ks item

  abbrev pub In : Scope → List (Option Sort) → Sorts → State → Type 0
  In env ks = Within bs sigs g from r env ks item

  many : (sorts : Sorts) (ks : List (Option Sort)) (ls : List Local) → Locals sorts ks ls → length ks ≡ length ls
  many sorts [] [] h = refl
  many sorts [] (l ∷ ls) h = absurd h
  many sorts (None ∷ ks) [] h = absurd h
  many sorts (Some u ∷ ks) [] h = absurd h
  many sorts (None ∷ ks) (l ∷ ls) h = ap suc (many sorts ks ls h.1)
  many sorts (Some u ∷ ks) (l ∷ ls) h = ap suc (many sorts ks ls h.1)

  locals_front : (sorts : Sorts) (ks ts : List (Option Sort)) (ls : List Local) → Locals sorts (ks ++ ts) ls → Locals sorts ks (take (length ks) ls)
  locals_front sorts [] ts ls h = tt
  locals_front sorts (None ∷ ks) ts [] h = absurd h
  locals_front sorts (Some u ∷ ks) ts [] h = absurd h
  locals_front sorts (None ∷ ks) ts (l ∷ ls) h = (h.0, locals_front sorts ks ts ls h.1)
  locals_front sorts (Some u ∷ ks) ts (l ∷ ls) h = (h.0, locals_front sorts ks ts ls h.1)

  -- a scope that goes on from this one
  pub record OnFrom (env next : Scope) (ks more : List (Option Sort)) : Type 0 where
    pub locals : List Variable
    pub scope : next ≡ record env { locals = env.locals ++ locals }
    pub toks : List (Option Sort)
    pub tokens : more ≡ ks ++ toks

  pub on_same : (env : Scope) (ks : List (Option Sort)) → OnFrom env env ks ks
  on_same env ks = record { locals = []; scope = (λ i. record env { locals = sym (nil env.locals) i }); toks = []; tokens = sym (nil ks) }
    where
      nil : {A : Type 0} (xs : List A) → xs ++ [] ≡ xs
      nil [] = refl
      nil (x ∷ xs) = ap (λ z. x ∷ z) (nil xs)

  pub on_then : (a b d : Scope) (ka kb kd : List (Option Sort)) → OnFrom a b ka kb → OnFrom b d kb kd → OnFrom a d ka kd
  on_then a b d ka kb kd p q = record {
    locals = p.locals ++ q.locals;
    scope = q.scope ∙ ap (λ (z : Scope). record z { locals = z.locals ++ q.locals }) p.scope ∙ (λ i. record a { locals = append_assoc a.locals p.locals q.locals i });
    toks = p.toks ++ q.toks;
    tokens = q.tokens ∙ ap (λ z. z ++ q.toks) p.tokens ∙ append_assoc ka p.toks q.toks;
  }

  -- what is left of the state in the scope before
  leave_held : (env next : Scope) (ks more : List (Option Sort)) (sorts later : Sorts) (s u : State) → OnFrom env next ks more → Held env ks sorts s → Held next more later u → Held env ks later (c.keep_locals (length s.locals) u)
  leave_held env next ks more sorts later s u on h b = record {
    scope = (λ i. record (behaviors_are i) { locals = names i });
    sits = record { locals = take_each (λ (l : Local). ContentOf l.sort l.held) (length s.locals) u.locals b.sits.locals; fields = b.sits.fields; actors = b.sits.actors; creations = b.sits.creations };
    low = b.low;
    new = b.new;
    named = subst (λ n. Locals later ks (take n u.locals)) (many sorts ks s.locals h.named) (locals_front later ks on.toks u.locals (subst (λ z. Locals later z u.locals) on.tokens b.named));
    places = b.places;
    messages = b.messages;
    joins = b.joins;
  }
    where
      behaviors_are : env ≡ record (scope_of r u) { locals = env.locals }
      behaviors_are = ap (λ (z : Scope). record z { locals = env.locals }) (sym on.scope ∙ b.scope)

      count : length env.locals ≡ length s.locals
      count = ap (λ (z : Scope). length z.locals) h.scope ∙ length_map c.variable_of s.locals

      names : env.locals ≡ map c.variable_of (take (length s.locals) u.locals)
      names = sym (take_front env.locals on.locals)
          ∙ ap (λ n. take n (env.locals ++ on.locals)) count
          ∙ ap (λ (z : Scope). take (length s.locals) z.locals) (sym on.scope ∙ b.scope)
          ∙ sym (take_map c.variable_of (length s.locals) u.locals)

  -- ---- blocks

  -- typed in some scope that goes on from this one
  pub record Left (env : Scope) (ks : List (Option Sort)) (sorts : Sorts) (f : Flow) (u : State) : Type 0 where
    pub next : Scope
    pub tokens : List (Option Sort)
    pub on : OnFrom env next ks tokens
    pub state : In next tokens sorts u
    pub flow : FlowOk g.result f

  -- what is declared inside is out of scope behind it
  pub scoped_left : (env : Scope) (ks : List (Option Sort)) (sorts : Sorts) (m : Eval Flow) (s : State) → Held env ks sorts s → After (Left env ks sorts) (m s) → After (λ f u. In env ks sorts u × FlowOk g.result f) (c.in_new_scope m s)
  scoped_left env ks sorts m s h a = at (m s) a
    where
      at : (o : OrTrap (Flow × State)) → After (Left env ks sorts) o → After (λ f u. In env ks sorts u × FlowOk g.result f) (and_then o (λ z. Ok (z.0, c.keep_locals (length s.locals) z.1)))
      at (Err k) p = tt
      at (Ok z) p = (record { later = p.state.later; grows = p.state.grows; held = leave_held env p.next ks p.tokens sorts p.state.later s z.1 p.on h p.state.held }, p.flow)

  -- a statement that may declare: behind it this scope, where it goes on
  pub record Stmt (env next : Scope) (ks more : List (Option Sort)) (x : Eval Flow) : Type 0 where
    pub on : OnFrom env next ks more
    pub runs : (sorts : Sorts) (s : State) → Held env ks sorts s → After (λ f u. Left env ks sorts f u × (f ≡ Next → In next more sorts u)) (x s)

  -- statements one after another
  abbrev pub SequenceOf : List t.StmtDenotation → Scope → List (Option Sort) → Type 0
  SequenceOf [] env ks = Unit {0}
  SequenceOf (x ∷ xs) env ks = (next : Scope) × ((more : List (Option Sort)) × (Stmt env next ks more (x r) × SequenceOf xs next more))

  pub sequence_left : (xs : List t.StmtDenotation) (env : Scope) (ks : List (Option Sort)) → SequenceOf xs env ks → (sorts : Sorts) (s : State) → Held env ks sorts s → After (Left env ks sorts) (t.sequence xs r s)
  sequence_left [] env ks f sorts s h = record { next = env; tokens = ks; on = on_same env ks; state = record { later = sorts; grows = λ q u e. e; held = h }; flow = tt }
  sequence_left (x ∷ xs) env ks f sorts s h =
      then_after (λ y u. Left env ks sorts y u × (y ≡ Next → In f.0 f.1.0 sorts u)) (Left env ks sorts) (x r s) (λ y. t.go_on_after y (t.sequence xs r)) (f.1.1.0.runs sorts s h) (λ y u p. go (λ z. sequence_left xs f.0 f.1.0 f.1.1.1 z.later u z.held) y p)
    where
      longer : (u : State) (z : In f.0 f.1.0 sorts u) → (y : Flow) (w : State) → Left f.0 f.1.0 z.later y w → Left env ks sorts y w
      longer u z y w q = record { next = q.next; tokens = q.tokens; on = on_then env f.0 q.next ks f.1.0 q.tokens f.1.1.0.on q.on; state = record { later = q.state.later; grows = λ v k e. q.state.grows v k (z.grows v k e); held = q.state.held }; flow = q.flow }

      go : {u : State} → ((z : In f.0 f.1.0 sorts u) → After (Left f.0 f.1.0 z.later) (t.sequence xs r u)) → (y : Flow) → Left env ks sorts y u × (y ≡ Next → In f.0 f.1.0 sorts u) → After (Left env ks sorts) (t.go_on_after y (t.sequence xs r) u)
      go {u} rest Next p = let z = p.1 refl in after_more (Left f.0 f.1.0 z.later) (Left env ks sorts) (t.sequence xs r u) (λ y w q. longer u z y w q) (rest z)
      go rest (Returned y) p = p.0
      go rest Passed p = p.0

  -- a block is typed where its statements are
  pub block_left : (xs : List t.StmtDenotation) (env : Scope) (ks : List (Option Sort)) → SequenceOf xs env ks → (sorts : Sorts) (s : State) → Held env ks sorts s → After (λ f u. In env ks sorts u × FlowOk g.result f) (t.sequence_in_scope xs r s)
  block_left xs env ks f sorts s h = scoped_left env ks sorts (t.sequence xs r) s h (sequence_left xs env ks f sorts s h)

  -- ---- tests and loops

  abbrev pub Stays : Scope → List (Option Sort) → Eval Flow → Type 0
  Stays env ks x = (sorts : Sorts) (s : State) → Held env ks sorts s → After (λ f u. In env ks sorts u × FlowOk g.result f) (x s)

  abbrev pub Tested : Scope → List (Option Sort) → Eval Bool → Type 0
  Tested env ks x = (sorts : Sorts) (s : State) → Held env ks sorts s → After (λ b u. Held env ks sorts u) (x s)

  pub here : (env : Scope) (ks : List (Option Sort)) (sorts : Sorts) (s : State) → Held env ks sorts s → In env ks sorts s
  here env ks sorts s h = record { later = sorts; grows = λ q u e. e; held = h }

  pub in_more : (env : Scope) (ks : List (Option Sort)) (sorts : Sorts) (s u : State) → (z : In env ks sorts s) → In env ks z.later u → In env ks sorts u
  in_more env ks sorts s u z w = record { later = w.later; grows = λ q k e. w.grows q k (z.grows q k e); held = w.held }

  pub next_stays : (env : Scope) (ks : List (Option Sort)) → Stays env ks (pure Next)
  next_stays env ks sorts s h = (here env ks sorts s h, tt)

  pub if_stays : (env : Scope) (ks : List (Option Sort)) (test : Eval Bool) (a b : Eval Flow) → Tested env ks test → Stays env ks a → Stays env ks b → Stays env ks (test >>= (λ q. if q then a else b))
  if_stays env ks test a b f p q sorts s h = then_after (λ y u. Held env ks sorts u) (λ y u. In env ks sorts u × FlowOk g.result y) (test s) (λ y. if y then a else b) (f sorts s h) (λ y u k. by y u k)
    where
      by : (y : Bool) (u : State) → Held env ks sorts u → After (λ z w. In env ks sorts w × FlowOk g.result z) ((if y then a else b) u)
      by true u k = p sorts u k
      by false u k = q sorts u k

  -- one more turn changes nothing else
  turned : (env : Scope) (ks : List (Option Sort)) (sorts : Sorts) (s : State) → Held env ks sorts s → After (λ y u. Held env ks sorts u) (c.begin_turn s)
  turned env ks sorts s h = at (nat_lt s.turns 100000)
    where
      at : (b : Bool) → After (λ (y : Unit {0}). λ u. Held env ks sorts u) (if b then Ok (tt, record s { turns = s.turns + 1 }) else Err TooManyTurns)
      at true = record { scope = h.scope; sits = record { locals = h.sits.locals; fields = h.sits.fields; actors = h.sits.actors; creations = h.sits.creations }; low = h.low; new = h.new; named = h.named; places = h.places; messages = h.messages; joins = h.joins }
      at false = tt

  pub after_stays : (env : Scope) (ks : List (Option Sort)) (x : Eval Flow) → Stays env ks x → (sorts : Sorts) (f : Flow) (u : State) → In env ks sorts u → FlowOk g.result f → After (λ y w. In env ks sorts w × FlowOk g.result y) (t.go_on_after f x u)
  after_stays env ks x p sorts Next u z ok = after_more (λ y w. In env ks z.later w × FlowOk g.result y) (λ y w. In env ks sorts w × FlowOk g.result y) (x u) (λ y w q. (in_more env ks sorts u w z q.0, q.1)) (p z.later u z.held)
  after_stays env ks x p sorts (Returned y) u z ok = (z, ok)
  after_stays env ks x p sorts Passed u z ok = (z, ok)

  pub looped_stays : (env : Scope) (ks : List (Option Sort)) (n : ℕ) (test : Eval Bool) (body : Eval Flow) → Tested env ks test → Stays env ks body → Stays env ks (t.bounded_loop n test body)
  unfolding t.bounded_loop
  looped_stays env ks zero test body f p sorts s h = tt
  looped_stays env ks (suc n) test body f p sorts s h =
      then_after (λ y u. Held env ks sorts u) (λ y u. In env ks sorts u × FlowOk g.result y) (test s) (λ y. if y then (c.begin_turn >> (body >>= (λ z. t.go_on_after z (t.bounded_loop n test body)))) else pure Next) (f sorts s h) (λ y u k. by (looped_stays env ks n test body f p) y u k)
    where
      by : Stays env ks (t.bounded_loop n test body) → (y : Bool) (u : State) → Held env ks sorts u → After (λ z w. In env ks sorts w × FlowOk g.result z) ((if y then (c.begin_turn >> (body >>= (λ z. t.go_on_after z (t.bounded_loop n test body)))) else pure Next) u)
      by rest false u k = (here env ks sorts u k, tt)
      by rest true u k =
          then_after (λ (y : Unit {0}). λ w. Held env ks sorts w) (λ z w. In env ks sorts w × FlowOk g.result z) (c.begin_turn u) (λ y. body >>= (λ z. t.go_on_after z (t.bounded_loop n test body))) (turned env ks sorts u k) (λ y w j.
          then_after (λ z v. In env ks sorts v × FlowOk g.result z) (λ z v. In env ks sorts v × FlowOk g.result z) (body w) (λ z. t.go_on_after z (t.bounded_loop n test body)) (p sorts w j) (λ z v q. after_stays env ks (t.bounded_loop n test body) rest sorts z v q.0 q.1))

  -- what declares nothing, as a statement
  pub stays_stmt : (env : Scope) (ks : List (Option Sort)) (x : Eval Flow) → Stays env ks x → Stmt env env ks ks x
  stays_stmt env ks x f = record {
    on = on_same env ks;
    runs = λ sorts s h. after_more (λ y u. In env ks sorts u × FlowOk g.result y) (λ y u. Left env ks sorts y u × (y ≡ Next → In env ks sorts u)) (x s) (λ y u q. (record { next = env; tokens = ks; on = on_same env ks; state = q.0; flow = q.1 }, λ e. q.0)) (f sorts s h);
  }

  -- a statement whose declaration is out of scope behind it
  pub scoped_stays : (env next : Scope) (ks more : List (Option Sort)) (x : Eval Flow) → Stmt env next ks more x → Stays env ks (c.in_new_scope x)
  scoped_stays env next ks more x f sorts s h = scoped_left env ks sorts x s h (after_more (λ y u. Left env ks sorts y u × (y ≡ Next → In next more sorts u)) (Left env ks sorts) (x s) (λ y u q. q.0) (f.runs sorts s h))

  -- ---- `for`

  abbrev pub Does : Scope → List (Option Sort) → Eval (Unit {0}) → Type 0
  Does env ks x = (sorts : Sorts) (s : State) → Held env ks sorts s → After (λ (z : Unit {0}). λ u. Held env ks sorts u) (x s)

  pub does_stays : (env : Scope) (ks : List (Option Sort)) (x : Eval (Unit {0})) → Does env ks x → Stays env ks (x >> pure Next)
  does_stays env ks x f sorts s h = then_after (λ (z : Unit {0}). λ u. Held env ks sorts u) (λ y u. In env ks sorts u × FlowOk g.result y) (x s) (λ z. pure Next) (f sorts s h) (λ z u q. (here env ks sorts u q, tt))

  turn_stays : (env : Scope) (ks : List (Option Sort)) (body : Eval Flow) (next : Eval (Unit {0})) → Stays env ks (c.in_new_scope body) → Does env ks next → Stays env ks (t.for_turn body next)
  turn_stays env ks body next f d sorts s h = then_after (λ y u. In env ks sorts u × FlowOk g.result y) (λ y u. In env ks sorts u × FlowOk g.result y) (c.in_new_scope body s) (λ y. t.go_on_after y (next >> pure Next)) (f sorts s h) (λ y u q. after_stays env ks (next >> pure Next) (does_stays env ks next d) sorts y u q.0 q.1)

  -- the first part may declare
  pub for_stays : (env next : Scope) (ks more : List (Option Sort)) (first : Eval (Unit {0})) (test : Eval Bool) (step : Eval (Unit {0})) (body : Eval Flow) → OnFrom env next ks more
      → ((sorts : Sorts) (s : State) → Held env ks sorts s → After (λ (z : Unit {0}). λ u. Held next more sorts u) (first s))
      → Tested next more test → Does next more step → Stays next more (c.in_new_scope body) → Stays env ks (t.for_loop first test step body)
  unfolding t.for_loop t.for_loop_in_scope
  for_stays env next ks more first test step body on f tested d b sorts s h =
      scoped_left env ks sorts (first >> t.bounded_loop t.loop_bound test (t.for_turn body step)) s h
      (then_after (λ (z : Unit {0}). λ u. Held next more sorts u) (Left env ks sorts) (first s) (λ z. t.bounded_loop t.loop_bound test (t.for_turn body step)) (f sorts s h) (λ z u q.
      after_more (λ y w. In next more sorts w × FlowOk g.result y) (Left env ks sorts) (t.bounded_loop t.loop_bound test (t.for_turn body step) u) (λ y w k. record { next = next; tokens = more; on = on; state = k.0; flow = k.1 })
      (looped_stays next more t.loop_bound test (t.for_turn body step) tested (turn_stays next more body step b d) sorts u q)))

  -- ---- expressions in statements

  module _ (can : Can bs r) where
    pub truth_tested : (env : Scope) (ks : List (Option Sort)) (e : Expr) (k : Kind) → Judgement bs e env k → Tested env ks (t.eval_test e r)
    truth_tested env ks e k j sorts s h = then_after (λ y u. Held env ks sorts u × Has k y) (λ y u. Held env ks sorts u) (eval e r s) (λ y. pure (is_true y)) (eval_held bs sigs g from r can env ks item sorts e k j s h) (λ y u q. q.0)

    -- an initialiser, or else the start of its type
    abbrev pub FirstOf : Option Expr → Value → Scope → Sort → Type 0
    FirstOf None start env u = Belongs u start
    FirstOf (Some e) start env u = (k : Kind) × (Judgement bs e env k × Assignable k u)

    pub first_held : (env : Scope) (ks : List (Option Sort)) (o : Option Expr) (start : Value) (u : Sort) → FirstOf o start env u → (sorts : Sorts) (s : State) → Held env ks sorts s → After (λ y w. Held env ks sorts w × Belongs u y) (t.initial_value o start r s)
    first_held env ks None start u f sorts s h = (h, f)
    first_held env ks (Some e) start u f sorts s h = after_more (λ y w. Held env ks sorts w × Has f.0 y) (λ y w. Held env ks sorts w × Belongs u y) (eval e r s) (λ y w q. (q.0, assigned bs f.0 u f.1.1 y q.1)) (eval_held bs sigs g from r can env ks item sorts e f.0 f.1.0 s h)

    -- `return`, in a handler with this result
    pub return_stays : (env : Scope) (ks : List (Option Sort)) (o : Option Expr) → FirstOf o Null env g.result → Stays env ks (t.initial_value o Null r >>= (λ y. pure (Returned y)))
    return_stays env ks o f sorts s h = then_after (λ y u. Held env ks sorts u × Belongs g.result y) (λ y u. In env ks sorts u × FlowOk g.result y) (t.initial_value o Null r s) (λ y. pure (Returned y)) (first_held env ks o Null g.result f sorts s h) (λ y u q. (here env ks sorts u q.0, q.1))

    -- ---- declarations

    pub map_append : {A B : Type 0} (f : A → B) (xs ys : List A) → map f (xs ++ ys) ≡ map f xs ++ map f ys
    map_append f [] ys = refl
    map_append f (x ∷ xs) ys = ap (λ z. f x ∷ z) (map_append f xs ys)

    -- what stands beside a local
    abbrev Entry : Sorts → Option Sort → Local → Type 0
    Entry sorts None l = token_in l.held ≡ None
    Entry sorts (Some u) l = (n : ℕ) × ((token_in l.held ≡ Some n) × (sorts (Tok r.me n) ≡ Some u))

    locals_push : (sorts : Sorts) (ks : List (Option Sort)) (ls : List Local) (k : Option Sort) (l : Local) → Locals sorts ks ls → Entry sorts k l → Locals sorts (ks ++ k ∷ []) (ls ++ l ∷ [])
    locals_push sorts [] [] None l h e = (e, tt)
    locals_push sorts [] [] (Some u) l h e = (e, tt)
    locals_push sorts [] (q ∷ ls) k l h e = absurd h
    locals_push sorts (None ∷ ks) [] k l h e = absurd h
    locals_push sorts (Some u ∷ ks) [] k l h e = absurd h
    locals_push sorts (None ∷ ks) (q ∷ ls) k l h e = (h.0, locals_push sorts ks ls k l h.1 e)
    locals_push sorts (Some u ∷ ks) (q ∷ ls) k l h e = (h.0, locals_push sorts ks ls k l h.1 e)

    abbrev pub with_variable : Scope → Local → Scope
    with_variable env l = record env { locals = env.locals ++ c.variable_of l ∷ [] }

    added_held : (env : Scope) (ks : List (Option Sort)) (sorts : Sorts) (s : State) (k : Option Sort) (l : Local) → Held env ks sorts s → ContentOf l.sort l.held → Entry sorts k l → Held (with_variable env l) (ks ++ k ∷ []) sorts (record s { locals = s.locals ++ l ∷ [] })
    added_held env ks sorts s k l h o e = record {
      scope = ap (λ (z : Scope). record z { locals = z.locals ++ c.variable_of l ∷ [] }) h.scope ∙ (λ i. record (scope_of r s) { locals = sym (map_append c.variable_of s.locals (l ∷ [])) i });
      sits = record { locals = each_append (λ (q : Local). ContentOf q.sort q.held) s.locals (l ∷ []) h.sits.locals (o, tt); fields = h.sits.fields; actors = h.sits.actors; creations = h.sits.creations };
      low = h.low;
      new = h.new;
      named = locals_push sorts ks s.locals k l h.named e;
      places = h.places;
      messages = h.messages;
      joins = h.joins;
    }

    on_added : (env : Scope) (ks : List (Option Sort)) (k : Option Sort) (l : Local) → OnFrom env (with_variable env l) ks (ks ++ k ∷ [])
    on_added env ks k l = record { locals = c.variable_of l ∷ []; scope = refl; toks = k ∷ []; tokens = refl }

    abbrev pub value_local : List ℕ → Option Sort → Value → Local
    value_local n o y = record { name = n; sort = o; held = held.Value y }

    abbrev pub token_local : List ℕ → ℕ → Local
    token_local n k = record { name = n; sort = None; held = held.Token k }

    left : (env : Scope) (l : Local) (ks : List (Option Sort)) (k : Option Sort) (sorts later : Sorts) (w : State) → ((q : Reply) (v : Sort) → sorts q ≡ Some v → later q ≡ Some v) → Held (with_variable env l) (ks ++ k ∷ []) later w → Left env ks sorts Next w × (Next ≡ Next → In (with_variable env l) (ks ++ k ∷ []) sorts w)
    left env l ks k sorts later w g q = (
      record { next = with_variable env l; tokens = ks ++ k ∷ []; on = on_added env ks k l; state = record { later = later; grows = g; held = q }; flow = tt },
      λ e. record { later = later; grows = g; held = q },
    )

    -- the scope and the tokens after a declaration of a local with this type
    abbrev pub after_declare : Scope → Declare → Scope
    after_declare env d = with_variable env (value_local d.name.text (type_sort d.sort r.behaviors) Null)

    -- a declaration of a type that is known
    pub declared_held : (env : Scope) (ks : List (Option Sort)) (d : Declare) (u : Sort) → type_sort d.sort r.behaviors ≡ Some u → FirstOf d.init (default_of d.sort) env u → (sorts : Sorts) (s : State) → Held env ks sorts s
        → After (λ (z : Unit {0}). λ w. Held (after_declare env d) (ks ++ None ∷ []) sorts w) (t.exec_declare d r s)
    declared_held env ks d u is f sorts s h =
        then_after (λ v w. Held env ks sorts w × Belongs u v) (λ (z : Unit {0}). λ w. Held (after_declare env d) (ks ++ None ∷ []) sorts w) (t.initial_value d.init (default_of d.sort) r s) (λ v. c.declare d.name.text (type_sort d.sort r.behaviors) v) (first_held env ks d.init (default_of d.sort) u f sorts s h) (λ v w q.
        added_held env ks sorts w None (value_local d.name.text (type_sort d.sort r.behaviors) v) q.0 (subst (λ o. ContentOf o (held.Value v)) (sym is) q.1) refl)

    pub on_declared : (env : Scope) (ks : List (Option Sort)) (d : Declare) → OnFrom env (after_declare env d) ks (ks ++ None ∷ [])
    on_declared env ks d = on_added env ks None (value_local d.name.text (type_sort d.sort r.behaviors) Null)

    pub declared_stmt : (env : Scope) (ks : List (Option Sort)) (d : Declare) (u : Sort) → type_sort d.sort r.behaviors ≡ Some u → FirstOf d.init (default_of d.sort) env u →
        Stmt env (after_declare env d) ks (ks ++ None ∷ []) (t.exec_declare d r >> pure Next)
    declared_stmt env ks d u is f = record {
      on = on_declared env ks d;
      runs = λ sorts s h.
          then_after (λ (z : Unit {0}). λ w. Held (after_declare env d) (ks ++ None ∷ []) sorts w) (λ q w. Left env ks sorts q w × (q ≡ Next → In (after_declare env d) (ks ++ None ∷ []) sorts w)) (t.exec_declare d r s) (λ z. pure Next)
          (declared_held env ks d u is f sorts s h)
          (λ z w q. left env (value_local d.name.text (type_sort d.sort r.behaviors) Null) ks None sorts sorts w (λ v i e. e) q);
    }

    -- `token x = chain`
    pub token_stmt : (env : Scope) (ks : List (Option Sort)) (n : List ℕ) (x : t.StageDenotation) (more : List t.StageDenotation) (result : Sort) → ChainOf bs sigs g from r can env ks item x more None result → (k : ℕ) →
        Stmt env (with_variable env (token_local n k)) ks (ks ++ Some result ∷ []) (t.exec_token_stmt n (x ∷ more) r)
    token_stmt env ks n x more result f k = record {
      on = on_added env ks (Some result) (token_local n k);
      runs = λ sorts s h.
          then_after (λ (z : Unit {0}). λ w. In (with_variable env (token_local n k)) (ks ++ Some result ∷ []) sorts w) (λ q w. Left env ks sorts q w × (q ≡ Next → In (with_variable env (token_local n k)) (ks ++ Some result ∷ []) sorts w)) ((t.chain (x ∷ more) r None end.Token >>= t.declare_reply n) s) (λ z. pure Next)
          (then_after (Chained bs sigs g from r can env ks item sorts result) (λ (z : Unit {0}). λ w. In (with_variable env (token_local n k)) (ks ++ Some result ∷ []) sorts w) (t.chain (x ∷ more) r None end.Token s) (λ o. t.declare_reply n o) (chain_held bs sigs g from r can env ks item x more None result f sorts None end.Token tt s (λ v i. absurd cc) h) (λ o w q.
          subst (λ z. After (λ (a : Unit {0}). λ u. In (with_variable env (token_local n k)) (ks ++ Some result ∷ []) sorts u) (t.declare_reply n z w)) (sym q.is)
          (record { later = q.staged.reach.later; grows = q.staged.reach.grows; held = added_held env ks q.staged.reach.later w (Some result) (token_local n q.number) q.staged.reach.held refl (q.number, (refl, q.staged.typed)) })))
          (λ z w q. left env (token_local n k) ks (Some result) sorts q.later w q.grows q.held);
    }
