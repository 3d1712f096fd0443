-- What statements do.
use Rattle.std.proofs.Common.{◌≡◌, ℕ, zero, suc, ◌+◌, ◌≤◌, ℤ, Bool, true, false, ◌&&◌, if◌then◌else◌, List, [], ◌∷◌, ◌++◌, length, map, take, Option, Some, None, Ok, Err, refl, sym, subst, ◌∙◌, arith}
use Rattle.std.specs.Prelude.{nat_lt, slice_get, slice_set, not, option_map}
use Rattle.sal_value.specs.declared.value.Value.{Value}
use Rattle.sal_value.specs.declared.value.Value.TheVariants.{Null}
use Rattle.sal_value.specs.declared.value.Sort.{Sort}
use Rattle.sal_ast.specs.declared.expression.Expr.{Expr}
use Rattle.sal_ast.specs.declared.statement.Declare.{Declare}
use Rattle.sal_ast.specs.declared.statement.Assign.{Assign}
use Rattle.sal_ast.specs.declared.statement.ForInit.{ForInit}
use Rattle.sal_ast.specs.declared.statement.ForInit.TheVariants as init
use Rattle.sal_ast.specs.declared.statement.Stage.{Stage}
use Rattle.sal_ast.specs.declared.statement.Stmt.{Stmt}
use Rattle.sal_ast.specs.declared.statement.Chain.{Chain}
use Rattle.sal_ast.specs.declared.statement.Stage.TheOpen.{Stage-F, Stmt-F, Chain-F}
use Rattle.sal_ast.specs.declared.statement.Stage.TheFolds.{map-Stage, map-Stmt, map-Chain}
use Rattle.sal_ast.specs.Regular.{Form, form_of, stage_is_regular, chain_is_regular, all_forms_regular, all_true}
use Rattle.sal_ast.specs.Regular as regular
use Rattle.sal_ast.specs.Sorts.{is_void_join}
use Rattle.sal_mail.specs.declared.fault.Trap.TheVariants.{TooManyTurns}
use Rattle.sal_handler.specs.declared.state.Content.{Content}
use Rattle.sal_handler.specs.declared.state.Content.TheVariants as held
use Rattle.sal_handler.specs.declared.state.Local.{Local}
use Rattle.sal_handler.specs.declared.state.End.{End}
use Rattle.sal_handler.specs.declared.state.End.TheVariants as end
use Rattle.sal_handler.specs.declared.state.Flow.{Flow}
use Rattle.sal_handler.specs.declared.state.Flow.TheVariants.{Next, Returned, Passed}
use Rattle.sal_handler.specs.declared.state.EnclosingJoin.{EnclosingJoin}
use Rattle.sal_handler.specs.declared.state.State.{State}
use Rattle.sal_handler.specs.Evaluation.{OrTrap, and_then, Eval, ◌>>=◌, ◌>>◌, pure}
use Rattle.sal_handler.specs.Values as w
use Rattle.sal_handler.specs.Scopes as c
use Rattle.sal_handler.specs.Scopes.{Context, in_new_scope, scope_of}
use Rattle.sal_handler.specs.Expressions as e
use Rattle.sal_handler.specs.Expressions.{eval, evals}
use Rattle.sal_handler.specs.Messages as m
use Rattle.sal_handler.specs.Statements as t
use Rattle.sal_handler.specs.Statements.{StageWithTree, StmtWithTree, ChainWithTree, StageDenotation, StmtDenotation, stage_denotation, stmt_denotation, stage_step, stmt_step, chain_step, exec, exec_block, tree_of, denotation_of}
use Rattle.sal_handler.specs.WellFormed.{EachOf}
use Rattle.sal_handler.proofs.After.{After, then_after, after_more}
use Rattle.sal_handler.proofs.Induction.{IfAny, OfStage, OfStmt, of_stmt}
use Rattle.sal_handler.proofs.Executions.{stmt_part}
use Rattle.sal_handler.proofs.Addresses.{each_append, each_front, each_back}
use Rattle.sal_effects.specs.Texts.{Texts, all_texts, expr_texts, exprs_texts, option_texts, assign_texts, option_assign_texts, init_texts, texts_of_stage, texts_of_stmt, stage_texts, stmt_texts, chain_texts, body_texts}
use Rattle.sal_effects.proofs.Trees.{stage_texts_rolled, stmt_texts_rolled, chain_texts_rolled, stage_regular_rolled, form_rolled, chain_regular_rolled}
use Rattle.sal_effects.proofs.Changes.{GoodSort, HeldOk, LocalOk, Law, opened, closed, ends}
use Rattle.sal_effects.proofs.Sorts.{type_good}
use Rattle.sal_effects.proofs.Values as x
use Rattle.sal_effects.proofs.Values.{Able, Given, Gives, KeptIn, Makes, get_each, gives_pure, gives_then, gives_if}
use Rattle.sal_effects.proofs.Sending as y
use Rattle.sal_effects.proofs.Sending.{StageGives, number_or_trap, reply_then}

each_take : {X : Type 0} (P : X → Type 0) (n : ℕ) (xs : List X) → EachOf P xs → EachOf P (take n xs)
each_take P zero xs p = tt
each_take P (suc n) [] p = tt
each_take P (suc n) (x ∷ xs) p = (p.0, each_take P n xs p.1)

pub each_set : {X : Type 0} (P : X → Type 0) (xs : List X) (i : ℕ) (y : X) → EachOf P xs → P y → EachOf P (slice_set xs i y)
each_set P [] i y p q = tt
each_set P (x ∷ xs) zero y p q = (q, p.1)
each_set P (x ∷ xs) (suc i) y p q = (p.0, each_set P xs i y p.1 q)

split : (a b : Bool) → a && b ≡ true → (a ≡ true) × (b ≡ true)
split true b e = (refl, e)
split false b e = absurd cc

module _ (law : Law) where
  abbrev V : Value → Type 0
  V = law.values.Holds

  abbrev L : List ℕ → Type 0
  L = law.values.Literal

  abbrev Any : {A : Type 0} → A → Type 0
  Any a = Unit {0}

  -- how often the handled reply was passed on by what ends so
  abbrev pub FlowOk : Context → ℕ → Flow → Type 0
  FlowOk r k Next = k ≡ 0
  FlowOk r k (Returned v) = (k ≡ 0) × V v
  FlowOk r k Passed = (r.within ≡ []) × ((k ≤ 1) × (law.Whole → k ≡ 1))

  -- what a statement leaves
  pub record Left (r : Context) (s : State) (f : Flow) (t : State) : Type 0 where
    pub passes : ℕ
    pub moved : law.Moves r passes s t
    pub kept : KeptIn law r t
    pub flow : FlowOk r passes f

  pub record Runs (r : Context) (m : Eval Flow) : Type 0 where
    pub at : (s : State) → KeptIn law r s → After (λ f t. Left r s f t) (m s)

  -- what holds of every statement
  abbrev pub Run : StmtDenotation → Type 0
  Run f = (r : Context) → Able law r → Runs r (f r)

  runs_next : (r : Context) → Runs r (pure Next)
  runs_next r = record { at = λ s h. record { passes = 0; moved = x.still law r s; kept = h; flow = refl } }

  left_then : (r : Context) (s t : State) (f : Flow) (u : State) → law.Moves r 0 s t → Left r t f u → Left r s f u
  left_then r s t f u a l = record { passes = l.passes; moved = law.next r l.passes s t u a l.moved; kept = l.kept; flow = l.flow }

  -- a part that ends nothing, and then what runs
  runs_then : {A : Type 0} (r : Context) (W : A → Type 0) (m : Eval A) (g : A → Eval Flow) → Gives law r 0 W m → ((a : A) → W a → Runs r (g a)) → Runs r (m >>= g)
  runs_then {A} r W m g f rest = record {
    at = λ s h.
        then_after (Given law r 0 W s) (λ f t. Left r s f t) (m s) g (f.at s h) (λ a t p.
        after_more (λ f u. Left r t f u) (λ f u. Left r s f u) (g a t) (λ f u l. left_then r s t f u p.0 l) ((rest a p.1.1).at t p.1.0));
  }

  runs_if : (r : Context) (b : Bool) (m n : Eval Flow) → Runs r m → Runs r n → Runs r (if b then m else n)
  runs_if r true m n f g = f
  runs_if r false m n f g = g

  goes_on : {A : Type 0} (r : Context) (W : A → Type 0) (m : Eval A) → Gives law r 0 W m → Runs r (m >> pure Next)
  goes_on r W m f = runs_then r W m (λ _. pure Next) f (λ a q. runs_next r)

  -- ---- declarations and assignments

  abbrev LocalIn : Context → Local → Type 0
  LocalIn r = LocalOk law.values r.behaviors r.mine

  first_gives : (o : Option Expr) (v : Value) → V v → EachOf L (option_texts o) → (r : Context) → Able law r → Gives law r 0 V (t.initial_value o v r)
  first_gives None v l g r able = gives_pure law r V v l
  first_gives (Some e) v l g r able = x.eval_gives law e g r able

  adds_local : (r : Context) (name : List ℕ) (sort : Option Sort) (h : Content) → GoodSort r.behaviors r.mine sort → HeldOk law.values h → Gives law r 0 (Any {A = Unit {0}}) (c.add_local name sort h)
  adds_local r name sort h good ok = record {
    at = λ s k.
        let l : Local = record { name = name; sort = sort; held = h } in
        (law.quiet r s (s.locals ++ l ∷ []) s.fields s.turns, (record { locals = each_append (LocalIn r) s.locals (l ∷ []) k.locals (record { held = ok; sort = good }, tt); fields = k.fields }, tt));
  }

  declare_gives : (d : Declare) → EachOf L (option_texts d.init) → (r : Context) → Able law r → Gives law r 0 (Any {A = Unit {0}}) (t.exec_declare d r)
  declare_gives d g r able =
      gives_then law r 0 V (Any {A = Unit {0}}) (t.initial_value d.init (w.default_of d.sort) r) _ (first_gives d.init (w.default_of d.sort) (law.values.default d.sort) g r able) (λ v q.
      adds_local r d.name.text _ (held.Value v) (type_good r.behaviors r.mine d.sort) q)

  item_there : (items : List Value) (i : ℕ) → EachOf V items → V (w.item_at items i)
  item_there [] i l = law.values.null
  item_there (y ∷ ys) zero l = l.0
  item_there (y ∷ ys) (suc i) l = item_there ys i l.1

  assign_field_gives : (o : Option ℕ) (is : List ℤ) (v : Value) → V v → (r : Context) → Gives law r 0 (Any {A = Unit {0}}) (c.assign_field o is v)
  assign_field_gives None is v l r = record { at = λ s h. (x.still law r s, (h, tt)) }
  assign_field_gives (Some i) is v l r = record { at = λ s h. at s h (w.value_after_assign (w.item_at s.fields i) is v) (λ z q. law.values.assigned (w.item_at s.fields i) is v z (item_there s.fields i h.fields) l q) }
    where
      at : (s : State) → KeptIn law r s → (o : OrTrap Value) → ((z : Value) → o ≡ Ok z → V z) → After (Given law r 0 (Any {A = Unit {0}}) s) (and_then o (λ z. Ok (tt, record s { fields = slice_set s.fields i z })))
      at s h (Ok z) good = (law.quiet r s s.locals (slice_set s.fields i z) s.turns, (record { locals = h.locals; fields = each_set V s.fields i z h.fields (good z refl) }, tt))
      at s h (Err k) good = tt

  held_after : (h : Content) (is : List ℤ) (v : Value) (y : Content) → HeldOk law.values h → V v → c.content_after_assign h is v ≡ Ok y → HeldOk law.values y
  held_after (held.Token n) is v y g l q = let same : held.Token n ≡ y = cc in subst (HeldOk law.values) same tt
  held_after (held.Value old) is v y g l q = at (w.value_after_assign old is v) (λ z f. law.values.assigned old is v z g l f) q
    where
      at : (o : OrTrap Value) → ((z : Value) → o ≡ Ok z → V z) → and_then o (λ z. Ok (held.Value z)) ≡ Ok y → HeldOk law.values y
      at (Ok z) good q = let same : held.Value z ≡ y = cc in subst (HeldOk law.values) same (good z refl)
      at (Err k) good q = absurd cc

  assign_local_gives : (i : ℕ) (is : List ℤ) (v : Value) → V v → (r : Context) → Gives law r 0 (Any {A = Unit {0}}) (c.assign_local i is v)
  assign_local_gives i is v l r = record { at = λ s h. found s h (slice_get s.locals i) (get_each (LocalIn r) s.locals i h.locals) }
    where
      stored : (s : State) → KeptIn law r s → (ls : List Local) → EachOf (LocalIn r) ls → After (Given law r 0 (Any {A = Unit {0}}) s) (Ok (tt, record s { locals = ls }))
      stored s h ls g = (law.quiet r s ls s.fields s.turns, (record { locals = g; fields = h.fields }, tt))

      at : (s : State) → KeptIn law r s → (one : Local) → GoodSort r.behaviors r.mine one.sort → (o : OrTrap Content) → ((z : Content) → o ≡ Ok z → HeldOk law.values z)
          → After (Given law r 0 (Any {A = Unit {0}}) s) (and_then (and_then o (λ z. Ok (slice_set s.locals i (record one { held = z })))) (λ ls. Ok (tt, record s { locals = ls })))
      at s h one sort (Ok z) good = stored s h (slice_set s.locals i (record one { held = z })) (each_set (LocalIn r) s.locals i (record one { held = z }) h.locals (record { held = good z refl; sort = sort }))
      at s h one sort (Err k) good = tt

      found : (s : State) → KeptIn law r s → (o : Option Local) → IfAny (LocalIn r) o → After (Given law r 0 (Any {A = Unit {0}}) s) (and_then (c.locals_after_assign o s.locals i is v) (λ ls. Ok (tt, record s { locals = ls })))
      found s h None g = stored s h s.locals h.locals
      found s h (Some one) g = at s h one g.sort (c.content_after_assign one.held is v) (λ z q. held_after one.held is v z g.held l q)

  assign_found_gives : (o : Option ℕ) (name : List ℕ) (r : Context) (is : List ℤ) (v : Value) → V v → Gives law r 0 (Any {A = Unit {0}}) (c.assign_local_or_field o name r is v)
  assign_found_gives None name r is v l = assign_field_gives (c.field_named name r) is v l r
  assign_found_gives (Some i) name r is v l = assign_local_gives i is v l r

  assign_variable_gives : (own : Bool) (name : List ℕ) (r : Context) (is : List ℤ) (v : Value) → V v → Gives law r 0 (Any {A = Unit {0}}) (c.assign_variable own name r is v)
  assign_variable_gives true name r is v l = record { at = λ s h. (assign_field_gives (c.field_named name r) is v l r).at s h }
  assign_variable_gives false name r is v l = record { at = λ s h. (assign_found_gives (c.local_named name s.locals) name r is v l).at s h }

  assign_gives : (a : Assign) → EachOf L (assign_texts a) → (r : Context) → Able law r → Gives law r 0 (Any {A = Unit {0}}) (t.exec_assign a r)
  assign_gives a g r able =
      gives_then law r 0 (EachOf V) (Any {A = Unit {0}}) (e.eval_all (evals a.indexes) r []) _ (x.all_give law (evals a.indexes) (x.evals_give law a.indexes (each_front L (exprs_texts a.indexes) (expr_texts a.value) g)) r able [] tt) (λ is u.
      gives_then law r 0 V (Any {A = Unit {0}}) (eval a.value r) (λ v. c.assign_variable a.own a.name.text r (map w.int_of is) v) (x.eval_gives law a.value (each_back L (exprs_texts a.indexes) (expr_texts a.value) g) r able) (λ v q.
      assign_variable_gives a.own a.name.text r (map w.int_of is) v q))

  -- ---- sequences, scopes and loops

  scoped_kept : (r : Context) (n : ℕ) (s : State) → KeptIn law r s → KeptIn law r (c.keep_locals n s)
  scoped_kept r n s h = record { locals = each_take (LocalIn r) n s.locals h.locals; fields = h.fields }

  scope_runs : (r : Context) (m : Eval Flow) → Runs r m → Runs r (in_new_scope m)
  scope_runs r m f = record {
    at = λ s h.
        then_after (λ f t. Left r s f t) (λ f t. Left r s f t) (m s) (λ a t. Ok (a, c.keep_locals (length s.locals) t)) (f.at s h) (λ a t l.
        record { passes = l.passes; moved = law.scoped r l.passes s t (take (length s.locals) t.locals) l.moved; kept = scoped_kept r (length s.locals) t l.kept; flow = l.flow });
  }

  -- a statement, and then the next one where it ended nothing
  run_after : (r : Context) (m n : Eval Flow) → Runs r m → Runs r n → Runs r (m >>= (λ f. t.go_on_after f n))
  run_after r m n f g = record { at = λ s h. after s (m s) (f.at s h) }
    where
      next : (s u : State) → law.Moves r 0 s u → (o : OrTrap (Flow × State)) → After (λ f t. Left r u f t) o → After (λ f t. Left r s f t) o
      next s u a (Ok z) l = left_then r s u z.0 z.1 a l
      next s u a (Err k) l = tt

      after : (s : State) → (o : OrTrap (Flow × State)) → After (λ f t. Left r s f t) o → After (λ f t. Left r s f t) (and_then o (λ z. t.go_on_after z.0 n z.1))
      after s (Err k) l = tt
      after s (Ok (Next, u)) l = next s u (subst (λ k. law.Moves r k s u) l.flow l.moved) (n u) (g.at u l.kept)
      after s (Ok (Returned v, u)) l = l
      after s (Ok (Passed, u)) l = l

  sequence_runs : (fs : List StmtDenotation) → EachOf Run fs → Run (t.sequence fs)
  sequence_runs [] f r able = runs_next r
  sequence_runs (k ∷ ks) f r able = run_after r (k r) (t.sequence ks r) (f.0 r able) (sequence_runs ks f.1 r able)

  block_runs : (fs : List StmtDenotation) → EachOf Run fs → Run (t.sequence_in_scope fs)
  block_runs fs f r able = scope_runs r (t.sequence fs r) (sequence_runs fs f r able)

  test_gives : (z : Expr) → EachOf L (expr_texts z) → (r : Context) → Able law r → Gives law r 0 (Any {A = Bool}) (t.eval_test z r)
  test_gives z g r able = gives_then law r 0 V (Any {A = Bool}) (eval z r) (λ v. pure (w.is_true v)) (x.eval_gives law z g r able) (λ v q. gives_pure law r (Any {A = Bool}) (w.is_true v) tt)

  turn_gives : (r : Context) → Gives law r 0 (Any {A = Unit {0}}) c.begin_turn
  turn_gives r = record { at = λ s h. at s h (nat_lt s.turns 100000) }
    where
      at : (s : State) → KeptIn law r s → (b : Bool) → After (Given law r 0 (Any {A = Unit {0}}) s) (if b then Ok (tt, record s { turns = s.turns + 1 }) else Err TooManyTurns)
      at s h true = (law.quiet r s s.locals s.fields (s.turns + 1), (record { locals = h.locals; fields = h.fields }, tt))
      at s h false = tt

  loop_runs : (n : ℕ) (test : Eval Bool) (body : Eval Flow) (r : Context) → Gives law r 0 (Any {A = Bool}) test → Runs r body → Runs r (t.bounded_loop n test body)
  unfolding t.bounded_loop
  loop_runs zero test body r f g = record { at = λ s h. tt }
  loop_runs (suc n) test body r f g =
      runs_then r (Any {A = Bool}) test (λ b. if b then (c.begin_turn >> (body >>= (λ k. t.go_on_after k (t.bounded_loop n test body)))) else pure Next) f (λ b q.
      runs_if r b (c.begin_turn >> (body >>= (λ k. t.go_on_after k (t.bounded_loop n test body)))) (pure Next)
      (runs_then r (Any {A = Unit {0}}) c.begin_turn (λ _. body >>= (λ k. t.go_on_after k (t.bounded_loop n test body))) (turn_gives r) (λ a z. run_after r body (t.bounded_loop n test body) g (loop_runs n test body r f g)))
      (runs_next r))

  init_gives : (i : ForInit) → EachOf L (init_texts i) → (r : Context) → Able law r → Gives law r 0 (Any {A = Unit {0}}) (t.exec_for_init i r)
  init_gives init.Nothing g r able = gives_pure law r (Any {A = Unit {0}}) tt tt
  init_gives (init.Declare d) g r able = declare_gives d g r able
  init_gives (init.Assign a) g r able = assign_gives a g r able

  for_test_gives : (o : Option Expr) → EachOf L (option_texts o) → (r : Context) → Able law r → Gives law r 0 (Any {A = Bool}) (t.eval_for_test o r)
  for_test_gives None g r able = gives_pure law r (Any {A = Bool}) true tt
  for_test_gives (Some z) g r able = test_gives z g r able

  for_next_gives : (o : Option Assign) → EachOf L (option_assign_texts o) → (r : Context) → Able law r → Gives law r 0 (Any {A = Unit {0}}) (t.exec_for_next o r)
  for_next_gives None g r able = gives_pure law r (Any {A = Unit {0}}) tt tt
  for_next_gives (Some a) g r able = assign_gives a g r able

  for_runs : (i : ForInit) (test : Option Expr) (next : Option Assign) (body : StmtDenotation) → EachOf L (init_texts i) → EachOf L (option_texts test) → EachOf L (option_assign_texts next) → Run body
      → (r : Context) → Able law r → Runs r (t.for_loop (t.exec_for_init i r) (t.eval_for_test test r) (t.exec_for_next next r) (body r))
  unfolding t.for_loop t.for_loop_in_scope
  for_runs i test next body a b d f r able =
      scope_runs r _ (runs_then r (Any {A = Unit {0}}) (t.exec_for_init i r) (λ _. t.bounded_loop t.loop_bound (t.eval_for_test test r) (t.for_turn (body r) (t.exec_for_next next r))) (init_gives i a r able) (λ u q.
      loop_runs t.loop_bound (t.eval_for_test test r) (t.for_turn (body r) (t.exec_for_next next r)) r (for_test_gives test b r able)
      (run_after r (in_new_scope (body r)) (t.exec_for_next next r >> pure Next) (scope_runs r (body r) (f r able)) (goes_on r (Any {A = Unit {0}}) (t.exec_for_next next r) (for_next_gives next d r able)))))

  -- ---- chains

  -- what a chain leaves: it passes the handled reply on as its last stage does, if it has one
  pub record ChainLeft (r : Context) (last : End) (some : Type 0) (s : State) (o : Option ℕ) (t : State) : Type 0 where
    pub passes : ℕ
    pub moved : law.Moves r passes s t
    pub kept : KeptIn law r t
    pub most : passes ≤ ends last
    pub whole : some → passes ≡ ends last

  abbrev HasAny : List StageDenotation → Type 0
  HasAny [] = ⊥
  HasAny (g ∷ gs) = Unit {0}

  chain_runs : (gs : List StageDenotation) → EachOf (StageGives law) gs → (r : Context) → Able law r → (before : Option ℕ) (last : End) (s : State) → KeptIn law r s → After (λ o t. ChainLeft r last (HasAny gs) s o t) (t.chain gs r before last s)
  chain_runs [] f r able before last s h = record { passes = 0; moved = x.still law r s; kept = h; most = omega arith; whole = λ b. absurd b }
  chain_runs (g ∷ []) f r able before last s h =
      then_after (Given law r (ends last) (Any {A = ℕ}) s) (λ o t. ChainLeft r last (Unit {0}) s o t) (g r before last s) (λ n. t.chain [] r (Some n) last) ((f.0 r able before last).at s h) (λ n u p.
      record { passes = ends last; moved = p.0; kept = p.1.0; most = omega arith; whole = λ b. refl })
  chain_runs (g ∷ k ∷ more) f r able before last s h =
      then_after (Given law r 0 (Any {A = ℕ}) s) (λ o t. ChainLeft r last (Unit {0}) s o t) (g r before end.Token s) (λ n. t.chain (k ∷ more) r (Some n) last) ((f.0 r able before end.Token).at s h) (λ n u p.
      after_more (λ o t. ChainLeft r last (Unit {0}) u o t) (λ o t. ChainLeft r last (Unit {0}) s o t) (t.chain (k ∷ more) r (Some n) last u)
      (λ o v l. record { passes = l.passes; moved = law.next r l.passes s u v p.0 l.moved; kept = l.kept; most = l.most; whole = l.whole }) (chain_runs (k ∷ more) f.1 r able (Some n) last u p.1.0))

  -- a chain that passes nothing on
  chain_gives : (gs : List StageDenotation) → EachOf (StageGives law) gs → (r : Context) → Able law r → (last : End) → ends last ≡ 0 → Gives law r 0 (Any {A = Option ℕ}) (t.chain gs r None last)
  chain_gives gs f r able last none = record {
    at = λ s h.
        after_more (λ o t. ChainLeft r last (HasAny gs) s o t) (Given law r 0 (Any {A = Option ℕ}) s) (t.chain gs r None last s)
        (λ o u l. let zero : l.passes ≡ 0 = omega (arith, l.most, none) in (subst (λ k. law.Moves r k s u) zero l.moved, (l.kept, tt))) (chain_runs gs f r able None last s h);
  }

  plain_none : (is : List EnclosingJoin) → ends (t.plain_end is) ≡ 0
  plain_none [] = refl
  plain_none (i ∷ is) = refl

  passed_runs : (is : List EnclosingJoin) (gs : List StageDenotation) → EachOf (StageGives law) gs → (law.Whole → HasAny gs) → (r : Context) → r.within ≡ is → Able law r → Runs r (t.exec_passed_chain is gs r)
  passed_runs [] gs f some r none able = record {
    at = λ s h.
        then_after (λ o u. ChainLeft r end.Caller (HasAny gs) s o u) (λ f u. Left r s f u) (t.chain gs r None end.Caller s) (λ _. pure Passed) (chain_runs gs f r able None end.Caller s h) (λ o u l.
        record { passes = l.passes; moved = l.moved; kept = l.kept; flow = (none, (l.most, λ whole. l.whole (some whole))) });
  }
  passed_runs (i ∷ is) gs f some r none able = goes_on r (Any {A = Option ℕ}) (t.chain gs r None end.Place) (chain_gives gs f r able end.Place refl)

  ended_runs : (passed : Option ℕ) (gs : List StageDenotation) → EachOf (StageGives law) gs → (law.Whole → HasAny gs) → Run (t.exec_chain_stmt passed gs)
  ended_runs None gs f some r able = goes_on r (Any {A = Option ℕ}) (t.chain gs r None (t.plain_end r.within)) (chain_gives gs f r able (t.plain_end r.within) (plain_none r.within))
  ended_runs (Some at) gs f some r able = passed_runs r.within gs f some r refl able

  declare_reply_gives : (name : List ℕ) (o : Option ℕ) (r : Context) → Gives law r 0 (Any {A = Unit {0}}) (t.declare_reply name o)
  declare_reply_gives name None r = gives_pure law r (Any {A = Unit {0}}) tt tt
  declare_reply_gives name (Some n) r = adds_local r name None (held.Token n) tt tt

  token_runs : (name : List ℕ) (gs : List StageDenotation) → EachOf (StageGives law) gs → Run (t.exec_token_stmt name gs)
  token_runs name gs f r able =
      goes_on r (Any {A = Unit {0}}) (t.chain gs r None end.Token >>= t.declare_reply name)
      (gives_then law r 0 (Any {A = Option ℕ}) (Any {A = Unit {0}}) (t.chain gs r None end.Token) (t.declare_reply name) (chain_gives gs f r able end.Token refl) (λ o q. declare_reply_gives name o r))

  -- ---- joins

  none_passed : (r : Context) (n : ℕ) (before : Option ℕ) (k : ℕ) (f : Flow) → FlowOk (t.within_join n before r) k f → k ≡ 0
  none_passed r n before k Next l = l
  none_passed r n before k (Returned v) l = l.0
  none_passed r n before k Passed l = absurd (at l.0)
    where
      at : record { join = n; before = before } ∷ r.within ≡ [] → ⊥
      at q = absurd cc

  pub join_gives : (void : State → Bool) (block : StmtDenotation) → Run block → StageGives law (t.exec_join_stage void block)
  join_gives void block f r able before last = record {
    at = λ s h.
        number_or_trap (Given law r (ends last) (Any {A = ℕ}) s) (length s.joins) s (λ n. m.reply_of_stage last r n >>= (λ owes. t.exec_join (void s) block r before n owes)) (λ few low.
        reply_then (Given law r (ends last) (Any {A = ℕ}) s) last r s (λ owes. t.exec_join (void s) block r before s.serial owes) (λ place.
        then_after (λ g b. Left (t.within_join s.serial before r) (opened last r (void s) s) g b) (Given law r (ends last) (Any {A = ℕ}) s) (block (t.within_join s.serial before r) (opened last r (void s) s)) (λ g b. Ok (s.serial, closed last r (void s) s b))
        ((f (t.within_join s.serial before r) (record { me = able.me; fresh = able.fresh; make = able.make })).at (opened last r (void s) s) (record { locals = h.locals; fields = h.fields })) (λ g b l.
        (law.joins r before last (void s) s b (record { few = few; number = low; place = place }) (subst (λ k. law.Moves (t.within_join s.serial before r) k (opened last r (void s) s) b) (none_passed r s.serial before l.passes g l.flow) l.moved), (record { locals = l.kept.locals; fields = l.kept.fields }, tt)))));
  }

  -- ---- trees

  -- what is asked of the trees of stages, statements and chains
  pub record StageOk (z : Stage) : Type 0 where
    pub texts : EachOf L (stage_texts z)
    pub whole : law.Whole → stage_is_regular z ≡ true

  pub record StmtOk (z : Stmt) : Type 0 where
    pub texts : EachOf L (stmt_texts z)
    pub whole : law.Whole → (form_of z).regular ≡ true

  pub record ChainOk (z : Chain) : Type 0 where
    pub texts : EachOf L (chain_texts z)
    pub whole : law.Whole → chain_is_regular z ≡ true

  abbrev G : StageWithTree → Type 0
  G z = StageOk z.0 → StageGives law z.1

  abbrev T : StmtWithTree → Type 0
  T z = StmtOk z.0 → Run z.1

  abbrev C : ChainWithTree → Type 0
  C z = ChainOk z.0 → EachOf (StageGives law) z.1 × (law.Whole → HasAny z.1)

  abbrev stage_trees : Stage-F StageWithTree StmtWithTree ChainWithTree → Stage-F Stage Stmt Chain
  stage_trees = map-Stage StageWithTree StmtWithTree ChainWithTree Stage Stmt Chain tree_of tree_of tree_of

  abbrev stmt_trees : Stmt-F StageWithTree StmtWithTree ChainWithTree → Stmt-F Stage Stmt Chain
  stmt_trees = map-Stmt StageWithTree StmtWithTree ChainWithTree Stage Stmt Chain tree_of tree_of tree_of

  abbrev chain_trees : Chain-F StageWithTree StmtWithTree ChainWithTree → Chain-F Stage Stmt Chain
  chain_trees = map-Chain StageWithTree StmtWithTree ChainWithTree Stage Stmt Chain tree_of tree_of tree_of

  runs_of : (list : List StmtWithTree) → EachOf T list → EachOf L (all_texts (map stmt_texts (map tree_of list))) → (law.Whole → all_forms_regular (map form_of (map tree_of list)) ≡ true) → EachOf Run (map denotation_of list)
  runs_of [] f g q = tt
  runs_of (z ∷ zs) f g q = (
    f.0 (record { texts = each_front L (stmt_texts z.0) (all_texts (map stmt_texts (map tree_of zs))) g; whole = λ y. (split (form_of z.0).regular (all_forms_regular (map form_of (map tree_of zs))) (q y)).0 }),
    runs_of zs f.1 (each_back L (stmt_texts z.0) (all_texts (map stmt_texts (map tree_of zs))) g) (λ y. (split (form_of z.0).regular (all_forms_regular (map form_of (map tree_of zs))) (q y)).1),
  )

  stages_of : (list : List StageWithTree) → EachOf G list → EachOf L (all_texts (map stage_texts (map tree_of list))) → (law.Whole → all_true (map stage_is_regular (map tree_of list)) ≡ true) → EachOf (StageGives law) (map denotation_of list)
  stages_of [] f g q = tt
  stages_of (z ∷ zs) f g q = (
    f.0 (record { texts = each_front L (stage_texts z.0) (all_texts (map stage_texts (map tree_of zs))) g; whole = λ y. (split (stage_is_regular z.0) (all_true (map stage_is_regular (map tree_of zs))) (q y)).0 }),
    stages_of zs f.1 (each_back L (stage_texts z.0) (all_texts (map stage_texts (map tree_of zs))) g) (λ y. (split (stage_is_regular z.0) (all_true (map stage_is_regular (map tree_of zs))) (q y)).1),
  )

  stage_by : (z : Stage-F StageWithTree StmtWithTree ChainWithTree) → OfStage G T C z
      → EachOf L (texts_of_stage (map-Stage Stage Stmt Chain Texts Texts Texts stage_texts stmt_texts chain_texts (stage_trees z)))
      → (law.Whole → regular.stage_step (map-Stage Stage Stmt Chain Bool Form Bool stage_is_regular form_of chain_is_regular (stage_trees z)) ≡ true) → StageGives law (stage_denotation z)
  stage_by (Stage-F.Message d) f g q = y.message_gives law d g
  stage_by (Stage-F.Join at body) f g q = λ r. join_gives (λ s. is_void_join (map tree_of body) (scope_of r s)) (t.sequence_in_scope (map denotation_of body)) (block_runs (map denotation_of body) (runs_of body f g q)) r

  if_regular : (test : Bool) (first : Form) (second : Form) → (test && first.regular && not first.takes_else && second.regular) ≡ true → (first.regular ≡ true) × (second.regular ≡ true)
  if_regular test first second q =
      let a = split (test && first.regular && not first.takes_else) second.regular q in
      ((split test first.regular (split (test && first.regular) (not first.takes_else) a.0).0).1, a.1)

  stmt_by : (z : Stmt-F StageWithTree StmtWithTree ChainWithTree) → OfStmt G T C z
      → EachOf L (texts_of_stmt (map-Stmt Stage Stmt Chain Texts Texts Texts stage_texts stmt_texts chain_texts (stmt_trees z)))
      → (law.Whole → (regular.stmt_step (map-Stmt Stage Stmt Chain Bool Form Bool stage_is_regular form_of chain_is_regular (stmt_trees z))).regular ≡ true) → Run (stmt_denotation z)
  stmt_by (Stmt-F.Empty at) f g q r able = runs_next r
  stmt_by (Stmt-F.Block at list) f g q r able = block_runs (map denotation_of list) (runs_of list f g q) r able
  stmt_by (Stmt-F.Declare d) f g q r able = goes_on r (Any {A = Unit {0}}) (t.exec_declare d r) (declare_gives d g r able)
  stmt_by (Stmt-F.Assign a) f g q r able = goes_on r (Any {A = Unit {0}}) (t.exec_assign a r) (assign_gives a g r able)
  stmt_by (Stmt-F.If at test first None) f g q r able =
      runs_then r (Any {A = Bool}) (t.eval_test test r) (λ b. if b then in_new_scope (first.1 r) else pure Next) (test_gives test (each_front L (expr_texts test) (stmt_texts first.0 ++ []) g) r able) (λ b u.
      runs_if r b (in_new_scope (first.1 r)) (pure Next)
      (scope_runs r (first.1 r) (f.0 (record { texts = each_front L (stmt_texts first.0) [] (each_back L (expr_texts test) (stmt_texts first.0 ++ []) g); whole = λ y. (split (regular.expr_is_regular test) (form_of first.0).regular (q y)).1 }) r able)) (runs_next r))
  stmt_by (Stmt-F.If at test first (Some second)) f g q r able =
      let behind = each_back L (expr_texts test) (stmt_texts first.0 ++ stmt_texts second.0) g in
      runs_then r (Any {A = Bool}) (t.eval_test test r) (λ b. if b then in_new_scope (first.1 r) else in_new_scope (second.1 r)) (test_gives test (each_front L (expr_texts test) (stmt_texts first.0 ++ stmt_texts second.0) g) r able) (λ b u.
      runs_if r b (in_new_scope (first.1 r)) (in_new_scope (second.1 r))
      (scope_runs r (first.1 r) (f.0 (record { texts = each_front L (stmt_texts first.0) (stmt_texts second.0) behind; whole = λ y. (if_regular (regular.expr_is_regular test) (form_of first.0) (form_of second.0) (q y)).0 }) r able))
      (scope_runs r (second.1 r) (f.1 (record { texts = each_back L (stmt_texts first.0) (stmt_texts second.0) behind; whole = λ y. (if_regular (regular.expr_is_regular test) (form_of first.0) (form_of second.0) (q y)).1 }) r able)))
  stmt_by (Stmt-F.While at test body) f g q r able =
      loop_runs t.loop_bound (t.eval_test test r) (in_new_scope (body.1 r)) r (test_gives test (each_front L (expr_texts test) (stmt_texts body.0) g) r able)
      (scope_runs r (body.1 r) (f (record { texts = each_back L (expr_texts test) (stmt_texts body.0) g; whole = λ y. (split (regular.expr_is_regular test) (form_of body.0).regular (q y)).1 }) r able))
  stmt_by (Stmt-F.For at first test next body) f g q r able =
      let a = each_back L (init_texts first) (option_texts test ++ (option_assign_texts next ++ stmt_texts body.0)) g in
      let b = each_back L (option_texts test) (option_assign_texts next ++ stmt_texts body.0) a in
      for_runs first test next body.1 (each_front L (init_texts first) (option_texts test ++ (option_assign_texts next ++ stmt_texts body.0)) g) (each_front L (option_texts test) (option_assign_texts next ++ stmt_texts body.0) a) (each_front L (option_assign_texts next) (stmt_texts body.0) b)
      (f (record { texts = each_back L (option_assign_texts next) (stmt_texts body.0) b; whole = λ y. (split (regular.init_is_regular first && regular.option_is_regular test && regular.or_true (option_map regular.assign_is_regular next)) (form_of body.0).regular (q y)).1 })) r able
  stmt_by (Stmt-F.Return at value) f g q r able = record {
    at = λ s h.
        then_after (Given law r 0 V s) (λ f u. Left r s f u) (t.initial_value value Null r s) (λ v. pure (Returned v)) ((first_gives value Null law.values.null g r able).at s h) (λ v u p.
        record { passes = 0; moved = p.0; kept = p.1.0; flow = (refl, p.1.1) });
  }
  stmt_by (Stmt-F.Token at name k) f g q r able = token_runs name.text k.1 (f (record { texts = g; whole = q })).0 r able
  stmt_by (Stmt-F.Chain k passed) f g q r able = ended_runs passed k.1 (f (record { texts = g; whole = q })).0 (f (record { texts = g; whole = q })).1 r able

  some_stages : (list : List StageWithTree) → regular.has_any (map stage_is_regular (map tree_of list)) ≡ true → HasAny (map denotation_of list)
  some_stages [] q = absurd cc
  some_stages (z ∷ zs) q = tt

  stage_ok : (z : Stage-F StageWithTree StmtWithTree ChainWithTree) → OfStage G T C z → G (stage_step z)
  stage_ok z f ok = stage_by z f (subst (EachOf L) (stage_texts_rolled (stage_trees z)) ok.texts) (λ y. sym (stage_regular_rolled (stage_trees z)) ∙ ok.whole y)

  stmt_ok : (z : Stmt-F StageWithTree StmtWithTree ChainWithTree) → OfStmt G T C z → T (stmt_step z)
  stmt_ok z f ok = stmt_by z f (subst (EachOf L) (stmt_texts_rolled (stmt_trees z)) ok.texts) (λ y. subst (λ k. k.regular ≡ true) (form_rolled (stmt_trees z)) (ok.whole y))

  chain_ok : (z : Chain-F StageWithTree StmtWithTree ChainWithTree) → EachOf G z.stages → C (chain_step z)
  chain_ok z f ok =
      (stages_of z.stages f (subst (EachOf L) (chain_texts_rolled (chain_trees z)) ok.texts) (λ y. (both y).1), λ y. some_stages z.stages (both y).0)
    where
      both : law.Whole → (regular.has_any (map stage_is_regular (map tree_of z.stages)) ≡ true) × (all_true (map stage_is_regular (map tree_of z.stages)) ≡ true)
      both y = split (regular.has_any (map stage_is_regular (map tree_of z.stages))) (all_true (map stage_is_regular (map tree_of z.stages))) (sym (chain_regular_rolled (chain_trees z)) ∙ ok.whole y)

  exec_runs : (z : Stmt) → StmtOk z → Run (exec z)
  exec_runs z ok = of_stmt G T C stage_ok stmt_ok chain_ok z (subst StmtOk (sym (stmt_part z)) ok)

  execs_run : (body : List Stmt) → EachOf L (body_texts body) → (law.Whole → regular.block_is_regular body ≡ true) → EachOf Run (map exec body)
  execs_run [] g q = tt
  execs_run (z ∷ zs) g q = (
    exec_runs z (record { texts = each_front L (stmt_texts z) (body_texts zs) g; whole = λ y. (split (form_of z).regular (regular.block_is_regular zs) (q y)).0 }),
    execs_run zs (each_back L (stmt_texts z) (body_texts zs) g) (λ y. (split (form_of z).regular (regular.block_is_regular zs) (q y)).1),
  )

  pub body_runs : (body : List Stmt) → EachOf L (body_texts body) → (law.Whole → regular.block_is_regular body ≡ true) → Run (exec_block body)
  body_runs body g q = block_runs (map exec body) (execs_run body g q)
