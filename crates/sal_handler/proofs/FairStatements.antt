-- Statements keep the state sound, and what a handler leaves is fair.
use Rattle.std.proofs.Common.{◌≡◌, ℕ, zero, suc, ◌+◌, ℤ, Bool, true, false, if◌then◌else◌, List, [], ◌∷◌, ◌++◌, length, map, take, Option, Some, None, Ok, Err, refl, ap, subst, arith}
use Rattle.std.specs.Prelude.{slice_get, slice_set, nat_lt}
use Rattle.sal_value.specs.declared.value.Value.{Value}
use Rattle.sal_ast.specs.declared.expression.Expr.{Expr}
use Rattle.sal_ast.specs.declared.statement.Declare.{Declare}
use Rattle.sal_ast.specs.declared.statement.Assign.{Assign}
use Rattle.sal_ast.specs.declared.statement.ForInit.{ForInit}
use Rattle.sal_ast.specs.declared.statement.ForInit.TheVariants as init
use Rattle.sal_mail.specs.declared.fault.Trap.TheVariants.{TooManyTurns}
use Rattle.sal_handler.specs.declared.state.Content.{Content}
use Rattle.sal_handler.specs.declared.state.Content.TheVariants as held
use Rattle.sal_handler.specs.declared.state.Local.{Local}
use Rattle.sal_handler.specs.declared.state.End.{End}
use Rattle.sal_handler.specs.declared.state.End.TheVariants as end
use Rattle.sal_handler.specs.declared.state.Flow.{Flow}
use Rattle.sal_handler.specs.declared.state.Flow.TheVariants.{Next, Returned, Passed}
use Rattle.sal_handler.specs.declared.state.EnclosingJoin.{EnclosingJoin}
use Rattle.sal_handler.specs.declared.state.State.{State}
use Rattle.sal_handler.specs.Evaluation.{OrTrap, and_then, Eval, ◌>>=◌, ◌>>◌, pure}
use Rattle.sal_handler.specs.Values as w
use Rattle.sal_handler.specs.Scopes as c
use Rattle.sal_handler.specs.Scopes.{Context, in_new_scope}
use Rattle.sal_handler.specs.Expressions as e
use Rattle.sal_handler.specs.Expressions.{eval, evals}
use Rattle.sal_handler.specs.Statements as t
use Rattle.sal_handler.specs.Statements.{StageWithTree, StmtWithTree, ChainWithTree, StageDenotation, StmtDenotation, stage_denotation, stmt_denotation, stage_step, stmt_step, chain_step, exec, tree_of, denotation_of}
use Rattle.sal_handler.specs.WellFormed.{EachOf, IsWithin}
use Rattle.sal_handler.proofs.Induction.{IfAny}
use Rattle.sal_handler.proofs.Addresses.{each_append}
use Rattle.sal_handler.proofs.Lawful.{Lawful, assigned_lawful, default_lawful}
use Rattle.sal_handler.proofs.Sound as d
use Rattle.sal_handler.proofs.Sound.{IsGoodLocal, IsGoodHeld, Able}
use Rattle.sal_handler.proofs.FairExpressions as x
use Rattle.sal_handler.proofs.FairMessages as y
use Rattle.sal_handler.proofs.FairJoins as j
use Rattle.sal_handler.proofs.FairJoins.{RunFair, EntryOk, FlowOk, exit}

each_take : {X : Type 0} (P : X → Type 0) (n : ℕ) (xs : List X) → EachOf P xs → EachOf P (take n xs)
each_take P zero xs p = tt
each_take P (suc n) [] p = tt
each_take P (suc n) (x ∷ xs) p = (p.0, each_take P n xs p.1)

pub each_set : {X : Type 0} (P : X → Type 0) (xs : List X) (i : ℕ) (y : X) → EachOf P xs → P y → EachOf P (slice_set xs i y)
each_set P [] i y p q = tt
each_set P (x ∷ xs) zero y p q = (q, p.1)
each_set P (x ∷ xs) (suc i) y p q = (p.0, each_set P xs i y p.1 q)

pub set_length : {X : Type 0} (xs : List X) (i : ℕ) (y : X) → length (slice_set xs i y) ≡ length xs
set_length [] i y = refl
set_length (x ∷ xs) zero y = refl
set_length (x ∷ xs) (suc i) y = ap suc (set_length xs i y)

module _ (Asked : Type 0) (from : ℕ) (sizes : List ℕ) (width : ℕ) where
  abbrev Sound : Context → ℕ → State → Type 0
  Sound = d.Sound Asked from sizes width

  abbrev Fair : {A : Type 0} → Context → (A → ℕ) → (A → State → Type 0) → State → OrTrap (A × State) → Type 0
  Fair = d.FairAt Asked from sizes width

  abbrev Keeps : {A : Type 0} → Context → ℕ → (A → State → Type 0) → State → OrTrap (A × State) → Type 0
  Keeps {A} r p V s x = Fair r (λ (a : A). p) V s x

  abbrev pub Done : Unit {0} → State → Type 0
  Done a s = Unit {0}

  abbrev pub OfValue : Value → State → Type 0
  OfValue v s = Lawful Asked v

  abbrev OfRun : Context → ℕ → State → OrTrap (Flow × State) → Type 0
  OfRun r p s x = Fair r (exit Asked from sizes width p) (FlowOk Asked from sizes width r) s x

  -- a part that ends nothing, and then the next statement
  pub goes_on : {A : Type 0} (r : Context) (p : ℕ) (V : A → State → Type 0) (s : State) (m : Eval A) → Keeps r p V s (m s) → OfRun r p s ((m >> pure Next) s)
  goes_on {A} r p V s m f = x.keeps_then Asked from sizes width r p V (exit Asked from sizes width p) (FlowOk Asked from sizes width r) s m (λ _. pure Next) f (λ a u mv k q. d.fair_pure Asked from sizes width r (exit Asked from sizes width p) (FlowOk Asked from sizes width r) u Next k tt)

  -- ---- declarations and assignments

  pub first_fair : (o : Option Expr) (v : Value) → Lawful Asked v → (r : Context) (p : ℕ) → Able Asked from r → (s : State) → Sound r p s → Keeps r p OfValue s (t.initial_value o v r s)
  first_fair None v l r p able s h = d.fair_pure Asked from sizes width r (λ (a : Value). p) OfValue s v h l
  first_fair (Some e) v l r p able s h = x.eval_fair Asked from sizes width e r p able s h

  local_fair : (r : Context) (p : ℕ) (l : Local) (s : State) → Sound r p s → IsGoodHeld Asked from s.serial l.held → Keeps r p Done s (Ok (tt, record s { locals = s.locals ++ l ∷ [] }))
  local_fair r p l s h g = record { holds = (record { sound = d.sound_locals Asked from sizes width r p s (s.locals ++ l ∷ []) h (each_append (IsGoodLocal Asked from s.serial) s.locals (l ∷ []) h.locals (g, tt)); moves = d.moves_quiet Asked from sizes width r s (d.with_locals Asked from sizes width (s.locals ++ l ∷ []) s) (omega arith) refl (λ a. refl) }, tt) }

  pub declared_fair : (y : Declare) (r : Context) (p : ℕ) → Able Asked from r → (s : State) → Sound r p s → Keeps r p Done s (t.exec_declare y r s)
  declared_fair y r p able s h =
      x.keeps_then Asked from sizes width r p OfValue (λ (a : Unit {0}). p) Done s (t.initial_value y.init (w.default_of y.sort) r) _ (first_fair y.init (w.default_of y.sort) (default_lawful Asked y.sort) r p able s h) (λ v u mv k l.
      local_fair r p (record { name = y.name.text; sort = _; held = held.Value v }) u k l)

  set_field_fair : (o : Option ℕ) (is : List ℤ) (v : Value) → Lawful Asked v → (r : Context) (p : ℕ) (s : State) → Sound r p s → Keeps r p Done s (c.assign_field o is v s)
  set_field_fair None is v l r p s h = d.fair_pure Asked from sizes width r (λ (a : Unit {0}). p) Done s tt h tt
  set_field_fair (Some i) is v l r p s h = at (w.value_after_assign (w.item_at s.fields i) is v) (λ y e. assigned_lawful Asked (w.item_at s.fields i) is v y l e)
    where
      at : (o : OrTrap Value) → ((y : Value) → o ≡ Ok y → Lawful Asked y) → Keeps r p Done s (and_then o (λ z. Ok (tt, record s { fields = slice_set s.fields i z })))
      at (Ok z) good = record { holds = (record { sound = d.sound_fields Asked from sizes width r p s (slice_set s.fields i z) h (each_set (Lawful Asked) s.fields i z h.fields (good z refl)) (set_length s.fields i z); moves = d.moves_quiet Asked from sizes width r s (d.with_fields Asked from sizes width (slice_set s.fields i z) s) (omega arith) refl (λ a. refl) }, tt) }
      at (Err k) good = d.fair_err Asked from sizes width r (λ (a : Unit {0}). p) Done s k

  held_fair : (to : ℕ) (h : Content) (is : List ℤ) (v : Value) (y : Content) → Lawful Asked v → IsGoodHeld Asked from to h → c.content_after_assign h is v ≡ Ok y → IsGoodHeld Asked from to y
  held_fair to (held.Token n) is v y l g e = let same : held.Token n ≡ y = cc in subst (IsGoodHeld Asked from to) same g
  held_fair to (held.Value old) is v y l g e = at (w.value_after_assign old is v) (λ z f. assigned_lawful Asked old is v z l f) e
    where
      at : (o : OrTrap Value) → ((z : Value) → o ≡ Ok z → Lawful Asked z) → and_then o (λ z. Ok (held.Value z)) ≡ Ok y → IsGoodHeld Asked from to y
      at (Ok z) good e = let same : held.Value z ≡ y = cc in subst (IsGoodHeld Asked from to) same (good z refl)
      at (Err k) good e = absurd cc

  set_local_fair : (i : ℕ) (is : List ℤ) (v : Value) → Lawful Asked v → (r : Context) (p : ℕ) (s : State) → Sound r p s → Keeps r p Done s (c.assign_local i is v s)
  set_local_fair i is v l r p s h = found (slice_get s.locals i) (y.get_each Asked from sizes width (IsGoodLocal Asked from s.serial) s.locals i h.locals)
    where
      kept : (ls : List Local) → EachOf (IsGoodLocal Asked from s.serial) ls → Keeps r p Done s (Ok (tt, record s { locals = ls }))
      kept ls g = record { holds = (record { sound = d.sound_locals Asked from sizes width r p s ls h g; moves = d.moves_quiet Asked from sizes width r s (d.with_locals Asked from sizes width ls s) (omega arith) refl (λ a. refl) }, tt) }

      at : (one : Local) (o : OrTrap Content) → ((z : Content) → o ≡ Ok z → IsGoodHeld Asked from s.serial z) → Keeps r p Done s (and_then (and_then o (λ z. Ok (slice_set s.locals i (record one { held = z })))) (λ ls. Ok (tt, record s { locals = ls })))
      at one (Ok z) good = kept (slice_set s.locals i (record one { held = z })) (each_set (IsGoodLocal Asked from s.serial) s.locals i (record one { held = z }) h.locals (good z refl))
      at one (Err k) good = d.fair_err Asked from sizes width r (λ (a : Unit {0}). p) Done s k

      found : (o : Option Local) → IfAny (IsGoodLocal Asked from s.serial) o → Keeps r p Done s (and_then (c.locals_after_assign o s.locals i is v) (λ ls. Ok (tt, record s { locals = ls })))
      found None g = kept s.locals h.locals
      found (Some one) g = at one (c.content_after_assign one.held is v) (λ z e. held_fair s.serial one.held is v z l g e)

  write_fair : (own : Bool) (name : List ℕ) (r : Context) (is : List ℤ) (v : Value) → Lawful Asked v → (p : ℕ) (s : State) → Sound r p s → Keeps r p Done s (c.assign_variable own name r is v s)
  write_fair true name r is v l p s h = set_field_fair (c.field_named name r) is v l r p s h
  write_fair false name r is v l p s h = at (c.local_named name s.locals)
    where
      at : (o : Option ℕ) → Keeps r p Done s (c.assign_local_or_field o name r is v s)
      at None = set_field_fair (c.field_named name r) is v l r p s h
      at (Some i) = set_local_fair i is v l r p s h

  evals_fair : (es : List Expr) → EachOf (x.MeanFair Asked from sizes width) (evals es)
  evals_fair [] = tt
  evals_fair (z ∷ zs) = (x.eval_fair Asked from sizes width z, evals_fair zs)

  pub assigned_fair : (a : Assign) (r : Context) (p : ℕ) → Able Asked from r → (s : State) → Sound r p s → Keeps r p Done s (t.exec_assign a r s)
  assigned_fair a r p able s h =
      x.keeps_then Asked from sizes width r p (λ (vs : List Value). λ s. EachOf (Lawful Asked) vs) (λ (a : Unit {0}). p) Done s (e.eval_all (evals a.indexes) r []) _ (x.all_fair Asked from sizes width (evals a.indexes) (evals_fair a.indexes) r p able [] tt s h) (λ is u mv k q.
      x.keeps_then Asked from sizes width r p OfValue (λ (a : Unit {0}). p) Done u (eval a.value r) _ (x.eval_fair Asked from sizes width a.value r p able u k) (λ v u1 mv1 k1 l. write_fair a.own a.name.text r (map w.int_of is) v l p u1 k1))

  -- ---- sequences, scopes and loops

  -- what is known of how a statement ends says nothing of the state
  flow_any : (r : Context) (f : Flow) (s u : State) → FlowOk Asked from sizes width r f s → FlowOk Asked from sizes width r f u
  flow_any r Next s u v = v
  flow_any r (Returned x) s u v = v
  flow_any r Passed s u v = v

  pub scoped_fair : (r : Context) (p : ℕ) (m : Eval Flow) (s : State) → OfRun r p s (m s) → OfRun r p s (in_new_scope m s)
  scoped_fair r p m s f =
      d.fair_then Asked from sizes width r (exit Asked from sizes width p) (FlowOk Asked from sizes width r) (exit Asked from sizes width p) (FlowOk Asked from sizes width r) s (m s) (λ a u. Ok (a, c.keep_locals (length s.locals) u)) f (λ a u mv k v.
      record { holds = (record { sound = d.sound_locals Asked from sizes width r (exit Asked from sizes width p a) u (take (length s.locals) u.locals) k (each_take (IsGoodLocal Asked from u.serial) (length s.locals) u.locals k.locals); moves = d.moves_quiet Asked from sizes width r u (d.with_locals Asked from sizes width (take (length s.locals) u.locals) u) (omega arith) refl (λ a. refl) }, flow_any r a u (c.keep_locals (length s.locals) u) v) })

  -- a statement, and then the next one where it ended nothing
  after_fair : (r : Context) (p : ℕ) (f : Flow) (n : Eval Flow) (s : State) → Sound r (exit Asked from sizes width p f) s → FlowOk Asked from sizes width r f s → (Sound r p s → OfRun r p s (n s)) → OfRun r p s (t.go_on_after f n s)
  after_fair r p Next n s h v next = next h
  after_fair r p (Returned z) n s h v next = d.fair_pure Asked from sizes width r (exit Asked from sizes width p) (FlowOk Asked from sizes width r) s (Returned z) h v
  after_fair r p Passed n s h v next = record { holds = (record { sound = h; moves = d.moves_same Asked from sizes width r s }, v) }

  then_run : (r : Context) (p : ℕ) (s : State) (m n : Eval Flow) → OfRun r p s (m s) → ((u : State) → Sound r p u → OfRun r p u (n u)) → OfRun r p s ((m >>= (λ f. t.go_on_after f n)) s)
  then_run r p s m n f next =
      fair_after (m s) f
    where
      fair_after : (o : OrTrap (Flow × State)) → OfRun r p s o → OfRun r p s (and_then o (λ z. t.go_on_after z.0 n z.1))
      fair_after (Err k) f = d.fair_err Asked from sizes width r (exit Asked from sizes width p) (FlowOk Asked from sizes width r) s k
      fair_after (Ok (Next, u)) f = joined (n u) (next u f.holds.0.sound)
        where
          joined : (o : OrTrap (Flow × State)) → OfRun r p u o → OfRun r p s o
          joined (Err k) g = d.fair_err Asked from sizes width r (exit Asked from sizes width p) (FlowOk Asked from sizes width r) s k
          joined (Ok z) g = record { holds = (record { sound = g.holds.0.sound; moves = d.moves_then Asked from sizes width r s u z.1 f.holds.0.moves g.holds.0.moves }, g.holds.1) }
      fair_after (Ok (Returned z, u)) f = f
      fair_after (Ok (Passed, u)) f = f

  sequence_fair : (fs : List StmtDenotation) → EachOf (RunFair Asked from sizes width) fs → (r : Context) (p : ℕ) → EntryOk Asked from sizes width r p → Able Asked from r → (s : State) → Sound r p s → OfRun r p s (t.sequence fs r s)
  sequence_fair [] f r p entry able s h = d.fair_pure Asked from sizes width r (exit Asked from sizes width p) (FlowOk Asked from sizes width r) s Next h tt
  sequence_fair (k ∷ ks) f r p entry able s h = then_run r p s (k r) (t.sequence ks r) (f.0 r p entry able s h) (λ u j. sequence_fair ks f.1 r p entry able u j)

  pub blocked_fair : (fs : List StmtDenotation) → EachOf (RunFair Asked from sizes width) fs → RunFair Asked from sizes width (t.sequence_in_scope fs)
  blocked_fair fs f r p entry able s h = scoped_fair r p (t.sequence fs r) s (sequence_fair fs f r p entry able s h)

  abbrev pub OfTest : Bool → State → Type 0
  OfTest b s = Unit {0}

  pub truth_fair : (z : Expr) (r : Context) (p : ℕ) → Able Asked from r → (s : State) → Sound r p s → Keeps r p OfTest s (t.eval_test z r s)
  truth_fair z r p able s h = x.keeps_then Asked from sizes width r p OfValue (λ (b : Bool). p) OfTest s (eval z r) (λ v. pure (w.is_true v)) (x.eval_fair Asked from sizes width z r p able s h) (λ v u mv k q. d.fair_pure Asked from sizes width r (λ (b : Bool). p) OfTest u (w.is_true v) k tt)

  turn_fair : (r : Context) (p : ℕ) (s : State) → Sound r p s → Keeps r p Done s (c.begin_turn s)
  turn_fair r p s h = at (nat_lt s.turns 100000)
    where
      at : (b : Bool) → Keeps r p Done s (if b then Ok (tt, record s { turns = s.turns + 1 }) else Err TooManyTurns)
      at true = record { holds = (record { sound = d.sound_turns Asked from sizes width r p s (s.turns + 1) h; moves = d.moves_quiet Asked from sizes width r s (record s { turns = s.turns + 1 }) (omega arith) refl (λ a. refl) }, tt) }
      at false = d.fair_err Asked from sizes width r (λ (a : Unit {0}). p) Done s TooManyTurns

  pub looped_fair : (n : ℕ) (test : Eval Bool) (body : Eval Flow) (r : Context) (p : ℕ) → ((s : State) → Sound r p s → Keeps r p OfTest s (test s)) → ((s : State) → Sound r p s → OfRun r p s (body s)) → (s : State) → Sound r p s → OfRun r p s (t.bounded_loop n test body s)
  unfolding t.bounded_loop
  looped_fair zero test body r p f g s h = d.fair_err Asked from sizes width r (exit Asked from sizes width p) (FlowOk Asked from sizes width r) s TooManyTurns
  looped_fair (suc n) test body r p f g s h =
      x.keeps_then Asked from sizes width r p OfTest (exit Asked from sizes width p) (FlowOk Asked from sizes width r) s test (λ b. if b then (c.begin_turn >> (body >>= (λ k. t.go_on_after k (t.bounded_loop n test body)))) else pure Next) (f s h) (λ b u mv k q.
      d.fair_if Asked from sizes width r (exit Asked from sizes width p) (FlowOk Asked from sizes width r) u b (c.begin_turn >> (body >>= (λ k. t.go_on_after k (t.bounded_loop n test body)))) (pure Next)
      (x.keeps_then Asked from sizes width r p Done (exit Asked from sizes width p) (FlowOk Asked from sizes width r) u c.begin_turn (λ _. body >>= (λ k. t.go_on_after k (t.bounded_loop n test body))) (turn_fair r p u k) (λ a v nv l z. then_run r p v body (t.bounded_loop n test body) (g v l) (λ u j. looped_fair n test body r p f g u j)))
      (d.fair_pure Asked from sizes width r (exit Asked from sizes width p) (FlowOk Asked from sizes width r) u Next k tt))

  begun_fair : (i : ForInit) (r : Context) (p : ℕ) → Able Asked from r → (s : State) → Sound r p s → Keeps r p Done s (t.exec_for_init i r s)
  begun_fair init.Nothing r p able s h = d.fair_pure Asked from sizes width r (λ (a : Unit {0}). p) Done s tt h tt
  begun_fair (init.Declare y) r p able s h = declared_fair y r p able s h
  begun_fair (init.Assign a) r p able s h = assigned_fair a r p able s h

  goes_on_fair : (o : Option Expr) (r : Context) (p : ℕ) → Able Asked from r → (s : State) → Sound r p s → Keeps r p OfTest s (t.eval_for_test o r s)
  goes_on_fair None r p able s h = d.fair_pure Asked from sizes width r (λ (b : Bool). p) OfTest s true h tt
  goes_on_fair (Some z) r p able s h = truth_fair z r p able s h

  stepped_fair : (o : Option Assign) (r : Context) (p : ℕ) → Able Asked from r → (s : State) → Sound r p s → Keeps r p Done s (t.exec_for_next o r s)
  stepped_fair None r p able s h = d.fair_pure Asked from sizes width r (λ (a : Unit {0}). p) Done s tt h tt
  stepped_fair (Some a) r p able s h = assigned_fair a r p able s h

  pub for_fair : (i : ForInit) (test : Option Expr) (next : Option Assign) (body : StmtDenotation) → RunFair Asked from sizes width body → (r : Context) (p : ℕ) → EntryOk Asked from sizes width r p → Able Asked from r → (s : State) → Sound r p s → OfRun r p s (t.for_loop (t.exec_for_init i r) (t.eval_for_test test r) (t.exec_for_next next r) (body r) s)
  unfolding t.for_loop t.for_loop_in_scope
  for_fair i test next body f r p entry able s h =
      scoped_fair r p (t.exec_for_init i r >> t.bounded_loop t.loop_bound (t.eval_for_test test r) (t.for_turn (body r) (t.exec_for_next next r))) s
      (x.keeps_then Asked from sizes width r p Done (exit Asked from sizes width p) (FlowOk Asked from sizes width r) s (t.exec_for_init i r) (λ _. t.bounded_loop t.loop_bound (t.eval_for_test test r) (t.for_turn (body r) (t.exec_for_next next r))) (begun_fair i r p able s h) (λ a u mv k q.
      looped_fair t.loop_bound (t.eval_for_test test r) (t.for_turn (body r) (t.exec_for_next next r)) r p (λ v l. goes_on_fair test r p able v l)
      (λ v l. then_run r p v (in_new_scope (body r)) (t.exec_for_next next r >> pure Next) (scoped_fair r p (body r) v (f r p entry able v l)) (λ z m. goes_on r p Done z (t.exec_for_next next r) (stepped_fair next r p able z m))) u k))

  -- ---- chains

  plain_exit : (is : List EnclosingJoin) (p : ℕ) → y.exit_end Asked from sizes width p (t.plain_end is) ≡ p
  plain_exit [] p = refl
  plain_exit (i ∷ is) p = refl

  plain_ok : (is : List EnclosingJoin) (p : ℕ) → y.LastOk Asked from sizes width p (t.plain_end is)
  plain_ok [] p = tt
  plain_ok (i ∷ is) p = tt

  abbrev OfLast : Option ℕ → State → Type 0
  OfLast o s = IfAny (IsWithin from s.serial) o

  chain_keeps : (gs : List StageDenotation) → EachOf (y.StageFair Asked from sizes width) gs → (r : Context) (p : ℕ) (last : End) → y.exit_end Asked from sizes width p last ≡ p → y.LastOk Asked from sizes width p last → Able Asked from r → (s : State) → Sound r p s → Keeps r p OfLast s (t.chain gs r None last s)
  chain_keeps gs f r p last e ok able s h = subst (λ q. Keeps r q OfLast s (t.chain gs r None last s)) e (j.chain_fair Asked from sizes width gs f r p None last ok able s h tt)

  passed_fair : (is : List EnclosingJoin) (gs : List StageDenotation) → EachOf (y.StageFair Asked from sizes width) gs → (r : Context) (p : ℕ) → r.within ≡ is → EntryOk Asked from sizes width r p → Able Asked from r → (s : State) → Sound r p s → OfRun r p s (t.exec_passed_chain is gs r s)
  passed_fair [] gs f r p e entry able s h =
      d.fair_then Asked from sizes width r (λ (o : Option ℕ). p + 1) OfLast (exit Asked from sizes width p) (FlowOk Asked from sizes width r) s (t.chain gs r None end.Caller s) (λ _. pure Passed) (j.chain_fair Asked from sizes width gs f r p None end.Caller (entry e) able s h tt) (λ o u mv k q. record { holds = (record { sound = k; moves = d.moves_same Asked from sizes width r u }, e) })
  passed_fair (i ∷ is) gs f r p e entry able s h = goes_on r p OfLast s (t.chain gs r None end.Place) (chain_keeps gs f r p end.Place refl tt able s h)

  pub ended_fair : (passed : Option ℕ) (gs : List StageDenotation) → EachOf (y.StageFair Asked from sizes width) gs → RunFair Asked from sizes width (t.exec_chain_stmt passed gs)
  ended_fair None gs f r p entry able s h = goes_on r p OfLast s (t.chain gs r None (t.plain_end r.within)) (chain_keeps gs f r p (t.plain_end r.within) (plain_exit r.within p) (plain_ok r.within p) able s h)
  ended_fair (Some at) gs f r p entry able s h = passed_fair r.within gs f r p refl entry able s h

  reply_fair : (name : List ℕ) (o : Option ℕ) (r : Context) (p : ℕ) (s : State) → Sound r p s → OfLast o s → Keeps r p Done s (t.declare_reply name o s)
  reply_fair name None r p s h g = d.fair_pure Asked from sizes width r (λ (a : Unit {0}). p) Done s tt h tt
  reply_fair name (Some n) r p s h g = local_fair r p (record { name = name; sort = None; held = held.Token n }) s h g

  pub named_fair : (name : List ℕ) (gs : List StageDenotation) → EachOf (y.StageFair Asked from sizes width) gs → RunFair Asked from sizes width (t.exec_token_stmt name gs)
  named_fair name gs f r p entry able s h =
      goes_on r p Done s (t.chain gs r None end.Token >>= t.declare_reply name)
      (x.keeps_then Asked from sizes width r p OfLast (λ (a : Unit {0}). p) Done s (t.chain gs r None end.Token) (t.declare_reply name) (chain_keeps gs f r p end.Token refl tt able s h) (λ o u mv k q. reply_fair name o r p u k q))
