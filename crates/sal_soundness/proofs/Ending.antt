-- A statement that surely ends, outside of joins, doesn't go on to the next.
use Rattle.std.proofs.Common.{◌≡◌, Bool, true, false, ◌||◌, if◌then◌else◌, List, [], ◌∷◌, length, map, Some, None, Ok, Err, refl, sym, ap, subst, ◌∙◌}
use Rattle.std.specs.List.{list_any}
use Rattle.std.proofs.lemmas.Bool.{and_parts}
use Rattle.sal_value.specs.declared.value.Value.TheVariants.{Null}
use Rattle.sal_ast.specs.declared.statement.Stage.{Stage}
use Rattle.sal_ast.specs.declared.statement.Stmt.{Stmt}
use Rattle.sal_ast.specs.declared.statement.Chain.{Chain}
use Rattle.sal_ast.specs.declared.statement.Stage.TheViews.{roll-Stmt}
use Rattle.sal_ast.specs.declared.statement.Stage.TheOpen.{Stmt-F}
use Rattle.sal_ast.specs.declared.statement.Stage.TheFolds.{map-Stmt, fold-Stage, fold-Chain, fold-roll-Stmt}
use Rattle.sal_types.specs.Endings as ends
use Rattle.sal_types.specs.Endings.{surely_ends}
use Rattle.sal_handler.specs.declared.state.End.TheVariants as end
use Rattle.sal_handler.specs.declared.state.EnclosingJoin.{EnclosingJoin}
use Rattle.sal_handler.specs.declared.state.Flow.{Flow}
use Rattle.sal_handler.specs.declared.state.Flow.TheVariants.{Next, Returned, Passed}
use Rattle.sal_handler.specs.declared.state.State.{State}
use Rattle.sal_handler.specs.Evaluation.{OrTrap, and_then, Eval, pure}
use Rattle.sal_handler.specs.Scopes.{Context, keep_locals, in_new_scope}
use Rattle.sal_handler.specs.Statements as t
use Rattle.sal_handler.specs.Statements.{StageWithTree, StmtWithTree, ChainWithTree, StageDenotation, stage_step, stmt_step, chain_step, stmt_denotation, stmt_with_tree, tree_of, denotation_of, exec, exec_block}
use Rattle.sal_handler.specs.WellFormed.{EachOf}
use Rattle.sal_handler.proofs.After.{After, then_after, after_is}
use Rattle.sal_handler.proofs.Executions.{parts}
use Rattle.sal_handler.proofs.Induction.{OfStmt, of_stmt}
use Rattle.sal_soundness.specs.Laws.{BodiesThatEndReturn}

-- ---- how parts end

abbrev pub NotNext : Flow → Type 0
NotNext Next = ⊥
NotNext (Returned v) = Unit {0}
NotNext Passed = Unit {0}

abbrev Ended : OrTrap (Flow × State) → Type 0
Ended o = After (λ f u. NotNext f) o

any : {A : Type 0} (o : OrTrap (A × State)) → After (λ a u. Unit {0}) o
any (Ok x) = tt
any (Err k) = tt

stays_ended : (m : Eval Flow) (f : Flow) (u : State) → NotNext f → Ended (t.go_on_after f m u)
stays_ended m Next u n = absurd n
stays_ended m (Returned v) u n = tt
stays_ended m Passed u n = tt

ends_later : (m : Eval Flow) (f : Flow) (u : State) → Ended (m u) → Ended (t.go_on_after f m u)
ends_later m Next u n = n
ends_later m (Returned v) u n = tt
ends_later m Passed u n = tt

scoped : (m : Eval Flow) (s : State) → Ended (m s) → Ended (in_new_scope m s)
scoped m s h = by (m s) h
  where
    by : (o : OrTrap (Flow × State)) → Ended o → Ended (and_then o (λ r. Ok (r.0, keep_locals (length s.locals) r.1)))
    by (Ok x) h = h
    by (Err k) h = tt

-- ---- statements

abbrev G : StageWithTree → Type 0
G q = Unit {0}

abbrev C : ChainWithTree → Type 0
C q = Unit {0}

-- where it surely ends, it does
abbrev T : StmtWithTree → Type 0
T q = surely_ends q.0 ≡ true → (r : Context) → r.within ≡ [] → (s : State) → Ended (q.1 r s)

sequence_ends : (list : List StmtWithTree) → EachOf T list → list_any (λ ends. ends) (map surely_ends (map tree_of list)) ≡ true → (r : Context) → r.within ≡ [] → (s : State) → Ended (t.sequence (map denotation_of list) r s)
sequence_ends [] each e r out s = absurd cc
sequence_ends (q ∷ list) each e r out s = by (surely_ends q.0) refl e (λ h u. sequence_ends list each.1 h r out u)
  where
    by : (b : Bool) → surely_ends q.0 ≡ b → (b || list_any (λ ends. ends) (map surely_ends (map tree_of list))) ≡ true
        → (list_any (λ ends. ends) (map surely_ends (map tree_of list)) ≡ true → (u : State) → Ended (t.sequence (map denotation_of list) r u)) → Ended (t.sequence (map denotation_of (q ∷ list)) r s)
    by true is e more = then_after (λ f u. NotNext f) (λ f u. NotNext f) (q.1 r s) (λ f. t.go_on_after f (t.sequence (map denotation_of list) r)) (each.0 is r out s) (λ f u n. stays_ended (t.sequence (map denotation_of list) r) f u n)
    by false is e more = then_after (λ f u. Unit {0}) (λ f u. NotNext f) (q.1 r s) (λ f. t.go_on_after f (t.sequence (map denotation_of list) r)) (any (q.1 r s)) (λ f u n. ends_later (t.sequence (map denotation_of list) r) f u (more e u))

abbrev ends_of : Stmt-F Stage Stmt Chain → Bool
ends_of z = ends.ends_step (map-Stmt Stage Stmt Chain (Unit {0}) Bool (Unit {0}) (fold-Stage (Unit {0}) Bool (Unit {0}) ends.stage_step ends.ends_step ends.chain_step) surely_ends (fold-Chain (Unit {0}) Bool (Unit {0}) ends.stage_step ends.ends_step ends.chain_step) z)

ends_is : (z : Stmt-F Stage Stmt Chain) → surely_ends (roll-Stmt z) ≡ ends_of z
unfolding surely_ends
ends_is z = fold-roll-Stmt (Unit {0}) Bool (Unit {0}) ends.stage_step ends.ends_step ends.chain_step z

abbrev stmt_trees : Stmt-F StageWithTree StmtWithTree ChainWithTree → Stmt-F Stage Stmt Chain
stmt_trees = map-Stmt StageWithTree StmtWithTree ChainWithTree Stage Stmt Chain tree_of tree_of tree_of

passed_ends : (is : List EnclosingJoin) (stages : List StageDenotation) (r : Context) → is ≡ [] → (s : State) → Ended (t.exec_passed_chain is stages r s)
passed_ends is stages r out s =
    subst (λ z. Ended (t.exec_passed_chain z stages r s)) (sym out)
    (then_after (λ o u. Unit {0}) (λ f u. NotNext f) (t.chain stages r None end.Caller s) (λ o. pure Passed) (any (t.chain stages r None end.Caller s)) (λ o u n. tt))

form : (x : Stmt-F StageWithTree StmtWithTree ChainWithTree) → OfStmt G T C x → ends_of (stmt_trees x) ≡ true → (r : Context) → r.within ≡ [] → (s : State) → Ended (stmt_denotation x r s)
form (Stmt-F.Empty at) h e r out s = absurd cc
form (Stmt-F.Block at list) h e r out s = scoped (t.sequence (map denotation_of list) r) s (sequence_ends list h e r out s)
form (Stmt-F.Declare d) h e r out s = absurd cc
form (Stmt-F.Assign a) h e r out s = absurd cc
form (Stmt-F.If at test first None) h e r out s = absurd (let f = (and_parts (surely_ends first.0) false e).1 in cc)
form (Stmt-F.If at test first (Some second)) h e r out s =
    let both = and_parts (surely_ends first.0) (surely_ends second.0) e in
    then_after (λ b u. Unit {0}) (λ f u. NotNext f) (t.eval_test test r s) (λ b. if b then in_new_scope (first.1 r) else in_new_scope (second.1 r)) (any (t.eval_test test r s)) (λ b u n. by both.0 both.1 b u)
  where
    by : surely_ends first.0 ≡ true → surely_ends second.0 ≡ true → (b : Bool) (u : State) → Ended ((if b then in_new_scope (first.1 r) else in_new_scope (second.1 r)) u)
    by p q true u = scoped (first.1 r) u (h.0 p r out u)
    by p q false u = scoped (second.1 r) u (h.1 q r out u)
form (Stmt-F.While at test body) h e r out s = absurd cc
form (Stmt-F.For at first test next body) h e r out s = absurd cc
form (Stmt-F.Return at value) h e r out s = then_after (λ v u. Unit {0}) (λ f u. NotNext f) (t.initial_value value Null r s) (λ v. pure (Returned v)) (any (t.initial_value value Null r s)) (λ v u n. tt)
form (Stmt-F.Token at name c) h e r out s = absurd cc
form (Stmt-F.Chain c None) h e r out s = absurd cc
form (Stmt-F.Chain c (Some at)) h e r out s = passed_ends r.within c.1 r out s

all_end : (x : Stmt) → T (stmt_with_tree x)
all_end = of_stmt G T C (λ x h. tt) (λ x h e. form x h (sym (ends_is (stmt_trees x)) ∙ e)) (λ x h. tt)

-- ---- bodies

each_ends : (body : List Stmt) → EachOf T (map stmt_with_tree body)
each_ends [] = tt
each_ends (x ∷ xs) = (all_end x, each_ends xs)

pub denotations : (body : List Stmt) → map denotation_of (map stmt_with_tree body) ≡ map exec body
denotations [] = refl
denotations (x ∷ xs) = ap (λ z. exec x ∷ z) (denotations xs)

marks : (body : List Stmt) → list_any (λ ends. ends) (map surely_ends body) ≡ list_any surely_ends body
marks [] = refl
marks (x ∷ xs) = ap (λ b. surely_ends x || b) (marks xs)

pub body_ends : (body : List Stmt) → list_any surely_ends body ≡ true → (r : Context) → r.within ≡ [] → (s : State) → After (λ f u. NotNext f) (exec_block body r s)
body_ends body e r out s =
    let some : list_any (λ ends. ends) (map surely_ends (map tree_of (map stmt_with_tree body))) ≡ true = ap (λ list. list_any (λ ends. ends) (map surely_ends list)) (parts body) ∙ (marks body ∙ e) in
    subst (λ ms. Ended (t.sequence_in_scope ms r s)) (denotations body) (scoped (t.sequence (map denotation_of (map stmt_with_tree body)) r) s (sequence_ends (map stmt_with_tree body) (each_ends body) some r out s))

not_next : (f : Flow) → NotNext f → f ≡ Next → ⊥
not_next f n e = subst NotNext e n

pub bodies_end : BodiesThatEndReturn
bodies_end body e r out old new f is = not_next f (after_is (λ y u. NotNext y) (exec_block body r old) f new (body_ends body e r out old) is)
