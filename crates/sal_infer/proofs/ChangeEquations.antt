-- The equations of the folds that give the results of chains and joins, one for each form.
use Rattle.std.proofs.Common.{◌≡◌, ℕ, List, map, Option, Some, None, sym, ap, ◌∙◌}
use Rattle.sal_ast.specs.declared.program.Ident.{Ident}
use Rattle.sal_ast.specs.declared.expression.Expr.{Expr}
use Rattle.sal_ast.specs.declared.statement.Declare.{Declare}
use Rattle.sal_ast.specs.declared.statement.Assign.{Assign}
use Rattle.sal_ast.specs.declared.statement.ForInit.{ForInit}
use Rattle.sal_ast.specs.declared.statement.Send.{Send}
use Rattle.sal_ast.specs.declared.statement.Stmt.{Stmt}
use Rattle.sal_ast.specs.declared.statement.Chain.{Chain}
use Rattle.sal_ast.specs.declared.statement.Stage.TheOpen.{Stage-F, Stmt-F}
use Rattle.sal_ast.specs.declared.statement.Stage.TheFolds.{fold-roll-Stage, fold-roll-Stmt, fold_out-Chain}
use Rattle.sal_ast.specs.declared.statement.Stmt.TheVariants as t
use Rattle.sal_ast.specs.declared.statement.Stage.TheVariants as g
use Rattle.sal_ast.specs.Sorts.{Scope, SortInScope, ScopeChange, stage_sort_step, scope_change_step, chain_sort_step, scope_change, result_of, last_result}
use Rattle.sal_infer.specs.code.Parts.{stage_result}

pub change-Empty : (at : ℕ) (s : Scope) → scope_change (t.Empty at) s ≡ scope_change_step (Stmt-F.Empty at) s
unfolding scope_change result_of stage_result
change-Empty at s = ap (λ d. scope_change d s) (sym (t.rolls-Empty at)) ∙ ap (λ f. f s) (fold-roll-Stmt SortInScope ScopeChange SortInScope stage_sort_step scope_change_step chain_sort_step (Stmt-F.Empty at))

pub change-Block : (at : ℕ) (list : List Stmt) (s : Scope) → scope_change (t.Block at list) s ≡ scope_change_step (Stmt-F.Block at (map scope_change list)) s
unfolding scope_change result_of stage_result
change-Block at list s = ap (λ d. scope_change d s) (sym (t.rolls-Block at list)) ∙ ap (λ f. f s) (fold-roll-Stmt SortInScope ScopeChange SortInScope stage_sort_step scope_change_step chain_sort_step (Stmt-F.Block at list))

pub change-Declare : (d : Declare) (s : Scope) → scope_change (t.Declare d) s ≡ scope_change_step (Stmt-F.Declare d) s
unfolding scope_change result_of stage_result
change-Declare d s = ap (λ d. scope_change d s) (sym (t.rolls-Declare d)) ∙ ap (λ f. f s) (fold-roll-Stmt SortInScope ScopeChange SortInScope stage_sort_step scope_change_step chain_sort_step (Stmt-F.Declare d))

pub change-Assign : (a : Assign) (s : Scope) → scope_change (t.Assign a) s ≡ scope_change_step (Stmt-F.Assign a) s
unfolding scope_change result_of stage_result
change-Assign a s = ap (λ d. scope_change d s) (sym (t.rolls-Assign a)) ∙ ap (λ f. f s) (fold-roll-Stmt SortInScope ScopeChange SortInScope stage_sort_step scope_change_step chain_sort_step (Stmt-F.Assign a))

pub change-While : (at : ℕ) (test : Expr) (body : Stmt) (s : Scope) → scope_change (t.While at test body) s ≡ scope_change_step (Stmt-F.While at test (scope_change body)) s
unfolding scope_change result_of stage_result
change-While at test body s = ap (λ d. scope_change d s) (sym (t.rolls-While at test body)) ∙ ap (λ f. f s) (fold-roll-Stmt SortInScope ScopeChange SortInScope stage_sort_step scope_change_step chain_sort_step (Stmt-F.While at test body))

pub change-For : (at : ℕ) (first : ForInit) (test : Option Expr) (next : Option Assign) (body : Stmt) (s : Scope) → scope_change (t.For at first test next body) s ≡ scope_change_step (Stmt-F.For at first test next (scope_change body)) s
unfolding scope_change result_of stage_result
change-For at first test next body s = ap (λ d. scope_change d s) (sym (t.rolls-For at first test next body)) ∙ ap (λ f. f s) (fold-roll-Stmt SortInScope ScopeChange SortInScope stage_sort_step scope_change_step chain_sort_step (Stmt-F.For at first test next body))

pub change-Return : (at : ℕ) (value : Option Expr) (s : Scope) → scope_change (t.Return at value) s ≡ scope_change_step (Stmt-F.Return at value) s
unfolding scope_change result_of stage_result
change-Return at value s = ap (λ d. scope_change d s) (sym (t.rolls-Return at value)) ∙ ap (λ f. f s) (fold-roll-Stmt SortInScope ScopeChange SortInScope stage_sort_step scope_change_step chain_sort_step (Stmt-F.Return at value))

pub change-Token : (at : ℕ) (name : Ident) (c : Chain) (s : Scope) → scope_change (t.Token at name c) s ≡ scope_change_step (Stmt-F.Token at name (result_of c)) s
unfolding scope_change result_of stage_result
change-Token at name c s = ap (λ d. scope_change d s) (sym (t.rolls-Token at name c)) ∙ ap (λ f. f s) (fold-roll-Stmt SortInScope ScopeChange SortInScope stage_sort_step scope_change_step chain_sort_step (Stmt-F.Token at name c))

pub change-Chain : (c : Chain) (passed : Option ℕ) (s : Scope) → scope_change (t.Chain c passed) s ≡ scope_change_step (Stmt-F.Chain (result_of c) passed) s
unfolding scope_change result_of stage_result
change-Chain c passed s = ap (λ d. scope_change d s) (sym (t.rolls-Chain c passed)) ∙ ap (λ f. f s) (fold-roll-Stmt SortInScope ScopeChange SortInScope stage_sort_step scope_change_step chain_sort_step (Stmt-F.Chain c passed))

pub change-IfNone : (at : ℕ) (test : Expr) (a : Stmt) (s : Scope) → scope_change (t.If at test a None) s ≡ scope_change_step (Stmt-F.If at test (scope_change a) None) s
unfolding scope_change result_of stage_result
change-IfNone at test a s = ap (λ d. scope_change d s) (sym (t.rolls-If at test a None)) ∙ ap (λ f. f s) (fold-roll-Stmt SortInScope ScopeChange SortInScope stage_sort_step scope_change_step chain_sort_step (Stmt-F.If at test a None))

pub change-IfSome : (at : ℕ) (test : Expr) (a b : Stmt) (s : Scope) → scope_change (t.If at test a (Some b)) s ≡ scope_change_step (Stmt-F.If at test (scope_change a) (Some (scope_change b))) s
unfolding scope_change result_of stage_result
change-IfSome at test a b s = ap (λ d. scope_change d s) (sym (t.rolls-If at test a (Some b))) ∙ ap (λ f. f s) (fold-roll-Stmt SortInScope ScopeChange SortInScope stage_sort_step scope_change_step chain_sort_step (Stmt-F.If at test a (Some b)))

pub stage-Message : (m : Send) (s : Scope) → stage_result (g.Message m) s ≡ stage_sort_step (Stage-F.Message m) s
unfolding scope_change result_of stage_result
stage-Message m s = ap (λ d. stage_result d s) (sym (g.rolls-Message m)) ∙ ap (λ f. f s) (fold-roll-Stage SortInScope ScopeChange SortInScope stage_sort_step scope_change_step chain_sort_step (Stage-F.Message m))

pub stage-Join : (at : ℕ) (body : List Stmt) (s : Scope) → stage_result (g.Join at body) s ≡ stage_sort_step (Stage-F.Join at (map scope_change body)) s
unfolding scope_change result_of stage_result
stage-Join at body s = ap (λ d. stage_result d s) (sym (g.rolls-Join at body)) ∙ ap (λ f. f s) (fold-roll-Stage SortInScope ScopeChange SortInScope stage_sort_step scope_change_step chain_sort_step (Stage-F.Join at body))

pub chain_is : (c : Chain) (s : Scope) → result_of c s ≡ last_result None (map stage_result c.stages) s
unfolding scope_change result_of stage_result
chain_is c s = ap (λ f. f s) (fold_out-Chain SortInScope ScopeChange SortInScope stage_sort_step scope_change_step chain_sort_step c)

pub ruleset change_equations = (change-Empty, change-Block, change-Declare, change-Assign, change-While, change-For, change-Return, change-Token, change-Chain, change-IfNone, change-IfSome, stage-Message, stage-Join, chain_is)
