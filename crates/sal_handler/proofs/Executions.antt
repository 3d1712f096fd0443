-- The equations of `exec` and `stage`, one for each form.
use Rattle.std.proofs.Common.{◌≡◌, ℕ, List, [], ◌∷◌, map, Option, Some, None, if◌then◌else◌, refl, sym, ap, subst, ◌∙◌}
use Rattle.sal_ast.specs.declared.program.Ident.{Ident}
use Rattle.sal_ast.specs.declared.expression.Expr.{Expr}
use Rattle.sal_ast.specs.declared.statement.Declare.{Declare}
use Rattle.sal_ast.specs.declared.statement.Assign.{Assign}
use Rattle.sal_ast.specs.declared.statement.ForInit.{ForInit}
use Rattle.sal_ast.specs.declared.statement.Send.{Send}
use Rattle.sal_ast.specs.declared.statement.Stmt.{Stmt}
use Rattle.sal_ast.specs.declared.statement.Stage.{Stage}
use Rattle.sal_ast.specs.declared.statement.Chain.{Chain}
use Rattle.sal_ast.specs.declared.statement.Stage.TheOpen.{Stage-F, Stmt-F, Chain-F}
use Rattle.sal_ast.specs.declared.statement.Stage.TheViews.{roll-Stage, roll-Stmt, roll-Chain}
use Rattle.sal_ast.specs.declared.statement.Stage.TheFolds.{map-Stage, map-Stmt, map-Chain, fold-roll-Stage, fold-roll-Stmt, fold-roll-Chain, fold_out-Chain, ind-Stmt}
use Rattle.sal_ast.specs.declared.statement.Stmt.TheVariants as t
use Rattle.sal_ast.specs.declared.statement.Stage.TheVariants as g
use Rattle.sal_handler.specs.Statements.{StageWithTree, StmtWithTree, ChainWithTree, stage_step, stmt_step, chain_step, stage_with_tree, stmt_with_tree, chain_with_tree, exec, exec_stage, tree_of, denotation_of, sequence_in_scope, exec_chain_stmt, exec_token_stmt, exec_declare, exec_assign, eval_test, while_loop, for_loop, exec_for_init, eval_for_test, exec_for_next, initial_value, exec_join_stage}
use Rattle.sal_value.specs.declared.value.Value.TheVariants.{Null}
use Rattle.sal_ast.specs.Sorts.{is_void_join}
use Rattle.sal_ast.proofs.Closing.{Known}
use Rattle.sal_handler.specs.declared.state.Flow.TheVariants.{Next, Returned}
use Rattle.sal_handler.specs.Evaluation.{◌>>=◌, ◌>>◌, pure}
use Rattle.sal_handler.specs.Scopes.{Context, scope_of, in_new_scope}
use Rattle.sal_handler.specs.Messages.{message}

sense-Empty : (at : ℕ) → stmt_with_tree (t.Empty at) ≡ stmt_step (Stmt-F.Empty at)
unfolding stage_with_tree stmt_with_tree chain_with_tree
sense-Empty at = ap stmt_with_tree (sym (t.rolls-Empty at)) ∙ fold-roll-Stmt StageWithTree StmtWithTree ChainWithTree stage_step stmt_step chain_step (Stmt-F.Empty at)

sense-Block : (at : ℕ) (list : List Stmt) → stmt_with_tree (t.Block at list) ≡ stmt_step (Stmt-F.Block at (map stmt_with_tree list))
unfolding stage_with_tree stmt_with_tree chain_with_tree
sense-Block at list = ap stmt_with_tree (sym (t.rolls-Block at list)) ∙ fold-roll-Stmt StageWithTree StmtWithTree ChainWithTree stage_step stmt_step chain_step (Stmt-F.Block at list)

sense-Declare : (d : Declare) → stmt_with_tree (t.Declare d) ≡ stmt_step (Stmt-F.Declare d)
unfolding stage_with_tree stmt_with_tree chain_with_tree
sense-Declare d = ap stmt_with_tree (sym (t.rolls-Declare d)) ∙ fold-roll-Stmt StageWithTree StmtWithTree ChainWithTree stage_step stmt_step chain_step (Stmt-F.Declare d)

sense-Assign : (a : Assign) → stmt_with_tree (t.Assign a) ≡ stmt_step (Stmt-F.Assign a)
unfolding stage_with_tree stmt_with_tree chain_with_tree
sense-Assign a = ap stmt_with_tree (sym (t.rolls-Assign a)) ∙ fold-roll-Stmt StageWithTree StmtWithTree ChainWithTree stage_step stmt_step chain_step (Stmt-F.Assign a)

sense-While : (at : ℕ) (test : Expr) (body : Stmt) → stmt_with_tree (t.While at test body) ≡ stmt_step (Stmt-F.While at test (stmt_with_tree body))
unfolding stage_with_tree stmt_with_tree chain_with_tree
sense-While at test body = ap stmt_with_tree (sym (t.rolls-While at test body)) ∙ fold-roll-Stmt StageWithTree StmtWithTree ChainWithTree stage_step stmt_step chain_step (Stmt-F.While at test body)

sense-For : (at : ℕ) (first : ForInit) (test : Option Expr) (next : Option Assign) (body : Stmt) → stmt_with_tree (t.For at first test next body) ≡ stmt_step (Stmt-F.For at first test next (stmt_with_tree body))
unfolding stage_with_tree stmt_with_tree chain_with_tree
sense-For at first test next body = ap stmt_with_tree (sym (t.rolls-For at first test next body)) ∙ fold-roll-Stmt StageWithTree StmtWithTree ChainWithTree stage_step stmt_step chain_step (Stmt-F.For at first test next body)

sense-Return : (at : ℕ) (value : Option Expr) → stmt_with_tree (t.Return at value) ≡ stmt_step (Stmt-F.Return at value)
unfolding stage_with_tree stmt_with_tree chain_with_tree
sense-Return at value = ap stmt_with_tree (sym (t.rolls-Return at value)) ∙ fold-roll-Stmt StageWithTree StmtWithTree ChainWithTree stage_step stmt_step chain_step (Stmt-F.Return at value)

sense-Token : (at : ℕ) (name : Ident) (c : Chain) → stmt_with_tree (t.Token at name c) ≡ stmt_step (Stmt-F.Token at name (chain_with_tree c))
unfolding stage_with_tree stmt_with_tree chain_with_tree
sense-Token at name c = ap stmt_with_tree (sym (t.rolls-Token at name c)) ∙ fold-roll-Stmt StageWithTree StmtWithTree ChainWithTree stage_step stmt_step chain_step (Stmt-F.Token at name c)

sense-Chain : (c : Chain) (passed : Option ℕ) → stmt_with_tree (t.Chain c passed) ≡ stmt_step (Stmt-F.Chain (chain_with_tree c) passed)
unfolding stage_with_tree stmt_with_tree chain_with_tree
sense-Chain c passed = ap stmt_with_tree (sym (t.rolls-Chain c passed)) ∙ fold-roll-Stmt StageWithTree StmtWithTree ChainWithTree stage_step stmt_step chain_step (Stmt-F.Chain c passed)

sense-IfNone : (at : ℕ) (test : Expr) (a : Stmt) → stmt_with_tree (t.If at test a None) ≡ stmt_step (Stmt-F.If at test (stmt_with_tree a) None)
unfolding stage_with_tree stmt_with_tree chain_with_tree
sense-IfNone at test a = ap stmt_with_tree (sym (t.rolls-If at test a None)) ∙ fold-roll-Stmt StageWithTree StmtWithTree ChainWithTree stage_step stmt_step chain_step (Stmt-F.If at test a None)

sense-IfSome : (at : ℕ) (test : Expr) (a b : Stmt) → stmt_with_tree (t.If at test a (Some b)) ≡ stmt_step (Stmt-F.If at test (stmt_with_tree a) (Some (stmt_with_tree b)))
unfolding stage_with_tree stmt_with_tree chain_with_tree
sense-IfSome at test a b = ap stmt_with_tree (sym (t.rolls-If at test a (Some b))) ∙ fold-roll-Stmt StageWithTree StmtWithTree ChainWithTree stage_step stmt_step chain_step (Stmt-F.If at test a (Some b))

sense-Message : (m : Send) → stage_with_tree (g.Message m) ≡ stage_step (Stage-F.Message m)
unfolding stage_with_tree stmt_with_tree chain_with_tree
sense-Message m = ap stage_with_tree (sym (g.rolls-Message m)) ∙ fold-roll-Stage StageWithTree StmtWithTree ChainWithTree stage_step stmt_step chain_step (Stage-F.Message m)

sense-Join : (at : ℕ) (body : List Stmt) → stage_with_tree (g.Join at body) ≡ stage_step (Stage-F.Join at (map stmt_with_tree body))
unfolding stage_with_tree stmt_with_tree chain_with_tree
sense-Join at body = ap stage_with_tree (sym (g.rolls-Join at body)) ∙ fold-roll-Stage StageWithTree StmtWithTree ChainWithTree stage_step stmt_step chain_step (Stage-F.Join at body)

sense_chain : (c : Chain) → (chain_with_tree c).1 ≡ map denotation_of (map stage_with_tree c.stages)
unfolding stage_with_tree stmt_with_tree chain_with_tree
sense_chain c = ap (λ x. x.1) (fold_out-Chain StageWithTree StmtWithTree ChainWithTree stage_step stmt_step chain_step c)

-- what stands beside a meaning is the part itself

abbrev GP : Stage → Type 0
GP x = (stage_with_tree x).0 ≡ x

abbrev TP : Stmt → Type 0
TP x = (stmt_with_tree x).0 ≡ x

abbrev CP : Chain → Type 0
CP x = (chain_with_tree x).0 ≡ x

abbrev LayerG : Type 0
LayerG = Stage-F (Known Stage GP) (Known Stmt TP) (Known Chain CP)

abbrev LayerT : Type 0
LayerT = Stmt-F (Known Stage GP) (Known Stmt TP) (Known Chain CP)

abbrev LayerC : Type 0
LayerC = Chain-F (Known Stage GP) (Known Stmt TP) (Known Chain CP)

abbrev stage_trees : LayerG → Stage-F Stage Stmt Chain
stage_trees = map-Stage (Known Stage GP) (Known Stmt TP) (Known Chain CP) Stage Stmt Chain (λ z. z.0) (λ z. z.0) (λ z. z.0)

abbrev stmt_trees : LayerT → Stmt-F Stage Stmt Chain
stmt_trees = map-Stmt (Known Stage GP) (Known Stmt TP) (Known Chain CP) Stage Stmt Chain (λ z. z.0) (λ z. z.0) (λ z. z.0)

abbrev chain_trees : LayerC → Chain-F Stage Stmt Chain
chain_trees = map-Chain (Known Stage GP) (Known Stmt TP) (Known Chain CP) Stage Stmt Chain (λ z. z.0) (λ z. z.0) (λ z. z.0)

abbrev stage_senses : Stage-F Stage Stmt Chain → Stage-F StageWithTree StmtWithTree ChainWithTree
stage_senses = map-Stage Stage Stmt Chain StageWithTree StmtWithTree ChainWithTree stage_with_tree stmt_with_tree chain_with_tree

abbrev stmt_senses : Stmt-F Stage Stmt Chain → Stmt-F StageWithTree StmtWithTree ChainWithTree
stmt_senses = map-Stmt Stage Stmt Chain StageWithTree StmtWithTree ChainWithTree stage_with_tree stmt_with_tree chain_with_tree

abbrev chain_senses : Chain-F Stage Stmt Chain → Chain-F StageWithTree StmtWithTree ChainWithTree
chain_senses = map-Chain Stage Stmt Chain StageWithTree StmtWithTree ChainWithTree stage_with_tree stmt_with_tree chain_with_tree

abbrev stage_parts : Stage-F StageWithTree StmtWithTree ChainWithTree → Stage-F Stage Stmt Chain
stage_parts = map-Stage StageWithTree StmtWithTree ChainWithTree Stage Stmt Chain tree_of tree_of tree_of

abbrev stmt_parts : Stmt-F StageWithTree StmtWithTree ChainWithTree → Stmt-F Stage Stmt Chain
stmt_parts = map-Stmt StageWithTree StmtWithTree ChainWithTree Stage Stmt Chain tree_of tree_of tree_of

abbrev chain_parts : Chain-F StageWithTree StmtWithTree ChainWithTree → Chain-F Stage Stmt Chain
chain_parts = map-Chain StageWithTree StmtWithTree ChainWithTree Stage Stmt Chain tree_of tree_of tree_of

all_part : (list : List (Known Stmt TP)) → map tree_of (map stmt_with_tree (map (λ z. z.0) list)) ≡ map (λ z. z.0) list
all_part [] = refl
all_part (x ∷ xs) = rw (x.1, all_part xs) refl

all_stage_part : (list : List (Known Stage GP)) → map tree_of (map stage_with_tree (map (λ z. z.0) list)) ≡ map (λ z. z.0) list
all_stage_part [] = refl
all_stage_part (x ∷ xs) = rw (x.1, all_stage_part xs) refl

stage_again : (y : LayerG) → stage_parts (stage_senses (stage_trees y)) ≡ stage_trees y
stage_again (Stage-F.Message m) = refl
stage_again (Stage-F.Join at body) = ap (Stage-F.Join at) (all_part body)

stmt_again : (y : LayerT) → stmt_parts (stmt_senses (stmt_trees y)) ≡ stmt_trees y
stmt_again (Stmt-F.Empty at) = refl
stmt_again (Stmt-F.Block at list) = ap (Stmt-F.Block at) (all_part list)
stmt_again (Stmt-F.Declare d) = refl
stmt_again (Stmt-F.Assign a) = refl
stmt_again (Stmt-F.If at test first None) = ap (λ x. Stmt-F.If at test x None) first.1
stmt_again (Stmt-F.If at test first (Some second)) = rw (first.1, second.1) refl
stmt_again (Stmt-F.While at test body) = ap (Stmt-F.While at test) body.1
stmt_again (Stmt-F.For at first test next body) = ap (Stmt-F.For at first test next) body.1
stmt_again (Stmt-F.Return at value) = refl
stmt_again (Stmt-F.Token at name c) = ap (Stmt-F.Token at name) c.1
stmt_again (Stmt-F.Chain c passed) = ap (λ x. Stmt-F.Chain x passed) c.1

chain_again : (y : LayerC) → chain_parts (chain_senses (chain_trees y)) ≡ chain_trees y
chain_again y = ap (λ l. record { stages = l }) (all_stage_part y.stages)

stage_layer : (y : LayerG) → GP (roll-Stage (stage_trees y))
unfolding stage_with_tree stmt_with_tree chain_with_tree
stage_layer y = ap (λ x. x.0) (fold-roll-Stage StageWithTree StmtWithTree ChainWithTree stage_step stmt_step chain_step (stage_trees y)) ∙ ap roll-Stage (stage_again y)

stmt_layer : (y : LayerT) → TP (roll-Stmt (stmt_trees y))
unfolding stage_with_tree stmt_with_tree chain_with_tree
stmt_layer y = ap (λ x. x.0) (fold-roll-Stmt StageWithTree StmtWithTree ChainWithTree stage_step stmt_step chain_step (stmt_trees y)) ∙ ap roll-Stmt (stmt_again y)

chain_layer : (y : LayerC) → CP (roll-Chain (chain_trees y))
unfolding stage_with_tree stmt_with_tree chain_with_tree
chain_layer y = ap (λ x. x.0) (fold-roll-Chain StageWithTree StmtWithTree ChainWithTree stage_step stmt_step chain_step (chain_trees y)) ∙ ap roll-Chain (chain_again y)

pub stmt_part : (x : Stmt) → TP x
stmt_part = ind-Stmt GP TP CP (λ x y is. subst (λ z. GP (roll-Stage z)) is (stage_layer y)) (λ x y is. subst (λ z. TP (roll-Stmt z)) is (stmt_layer y)) (λ x y is. subst (λ z. CP (roll-Chain z)) is (chain_layer y))

-- ---- the equations

pub parts : (list : List Stmt) → map tree_of (map stmt_with_tree list) ≡ list
parts [] = refl
parts (x ∷ xs) = rw (stmt_part x, parts xs) refl

pub doings : (list : List Stmt) → map denotation_of (map stmt_with_tree list) ≡ map exec list
doings [] = refl
doings (x ∷ xs) = ap (λ l. exec x ∷ l) (doings xs)

stage_doings : (list : List Stage) → map denotation_of (map stage_with_tree list) ≡ map exec_stage list
stage_doings [] = refl
stage_doings (x ∷ xs) = ap (λ l. exec_stage x ∷ l) (stage_doings xs)

stages_of_chain : (c : Chain) → (chain_with_tree c).1 ≡ map exec_stage c.stages
stages_of_chain c = sense_chain c ∙ stage_doings c.stages

pub exec-Empty : (at : ℕ) (r : Context) → exec (t.Empty at) r ≡ pure Next
exec-Empty at r = ap (λ x. x.1 r) (sense-Empty at)

pub exec-Block : (at : ℕ) (list : List Stmt) (r : Context) → exec (t.Block at list) r ≡ sequence_in_scope (map exec list) r
exec-Block at list r = ap (λ x. x.1 r) (sense-Block at list) ∙ ap (λ l. sequence_in_scope l r) (doings list)

pub exec-Declare : (d : Declare) (r : Context) → exec (t.Declare d) r ≡ (exec_declare d r >> pure Next)
exec-Declare d r = ap (λ x. x.1 r) (sense-Declare d)

pub exec-Assign : (a : Assign) (r : Context) → exec (t.Assign a) r ≡ (exec_assign a r >> pure Next)
exec-Assign a r = ap (λ x. x.1 r) (sense-Assign a)

pub exec-IfNone : (at : ℕ) (test : Expr) (a : Stmt) (r : Context) → exec (t.If at test a None) r ≡ (eval_test test r >>= (λ b. if b then in_new_scope (exec a r) else pure Next))
exec-IfNone at test a r = ap (λ x. x.1 r) (sense-IfNone at test a)

pub exec-IfSome : (at : ℕ) (test : Expr) (a b : Stmt) (r : Context) → exec (t.If at test a (Some b)) r ≡ (eval_test test r >>= (λ c. if c then in_new_scope (exec a r) else in_new_scope (exec b r)))
exec-IfSome at test a b r = ap (λ x. x.1 r) (sense-IfSome at test a b)

pub exec-While : (at : ℕ) (test : Expr) (body : Stmt) (r : Context) → exec (t.While at test body) r ≡ while_loop (eval_test test r) (exec body r)
exec-While at test body r = ap (λ x. x.1 r) (sense-While at test body)

pub exec-For : (at : ℕ) (first : ForInit) (test : Option Expr) (next : Option Assign) (body : Stmt) (r : Context) → exec (t.For at first test next body) r ≡ for_loop (exec_for_init first r) (eval_for_test test r) (exec_for_next next r) (exec body r)
exec-For at first test next body r = ap (λ x. x.1 r) (sense-For at first test next body)

pub exec-Return : (at : ℕ) (value : Option Expr) (r : Context) → exec (t.Return at value) r ≡ (initial_value value Null r >>= (λ v. pure (Returned v)))
exec-Return at value r = ap (λ x. x.1 r) (sense-Return at value)

pub exec-Token : (at : ℕ) (name : Ident) (c : Chain) (r : Context) → exec (t.Token at name c) r ≡ exec_token_stmt name.text (map exec_stage c.stages) r
exec-Token at name c r = ap (λ x. x.1 r) (sense-Token at name c) ∙ ap (λ l. exec_token_stmt name.text l r) (stages_of_chain c)

pub exec-Chain : (c : Chain) (passed : Option ℕ) (r : Context) → exec (t.Chain c passed) r ≡ exec_chain_stmt passed (map exec_stage c.stages) r
exec-Chain c passed r = ap (λ x. x.1 r) (sense-Chain c passed) ∙ ap (λ l. exec_chain_stmt passed l r) (stages_of_chain c)

pub stage-Message : (m : Send) → exec_stage (g.Message m) ≡ message m
stage-Message m = ap (λ x. x.1) (sense-Message m)

pub stage-Join : (at : ℕ) (body : List Stmt) (r : Context) → exec_stage (g.Join at body) r ≡ exec_join_stage (λ s. is_void_join body (scope_of r s)) (sequence_in_scope (map exec body)) r
stage-Join at body r =
    ap (λ x. x.1 r) (sense-Join at body)
    ∙ ap (λ l. exec_join_stage (λ s. is_void_join l (scope_of r s)) (sequence_in_scope (map denotation_of (map stmt_with_tree body))) r) (parts body)
    ∙ ap (λ l. exec_join_stage (λ s. is_void_join body (scope_of r s)) (sequence_in_scope l) r) (doings body)

pub ruleset executions = (exec-Empty, exec-Block, exec-Declare, exec-Assign, exec-IfNone, exec-IfSome, exec-While, exec-For, exec-Return, exec-Token, exec-Chain, stage-Message, stage-Join)
