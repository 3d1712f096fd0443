-- What each form of statement does in a state.
use Rattle.std.proofs.Common.{◌≡◌, ℕ, List, map, Option, Some, None, if◌then◌else◌, ap}
use Rattle.sal_value.specs.declared.value.Value.TheVariants.{Null}
use Rattle.sal_ast.specs.declared.program.Ident.{Ident}
use Rattle.sal_ast.specs.declared.expression.Expr.{Expr}
use Rattle.sal_ast.specs.declared.statement.Declare.{Declare}
use Rattle.sal_ast.specs.declared.statement.Assign.{Assign}
use Rattle.sal_ast.specs.declared.statement.ForInit.{ForInit}
use Rattle.sal_ast.specs.declared.statement.Send.{Send}
use Rattle.sal_ast.specs.declared.statement.Stmt.{Stmt}
use Rattle.sal_ast.specs.declared.statement.Chain.{Chain}
use Rattle.sal_ast.specs.declared.statement.Stmt.TheVariants as t
use Rattle.sal_ast.specs.declared.statement.Stage.TheVariants as g
use Rattle.sal_ast.specs.Sorts.{is_void_join}
use Rattle.sal_handler.specs.declared.state.State.{State}
use Rattle.sal_handler.specs.declared.state.End.{End}
use Rattle.sal_handler.specs.declared.state.Flow.TheVariants.{Next, Returned}
use Rattle.sal_handler.specs.Evaluation.{◌>>=◌, ◌>>◌, pure}
use Rattle.sal_handler.specs.Scopes.{Context, scope_of, in_new_scope}
use Rattle.sal_handler.specs.Messages.{message}
use Rattle.sal_handler.specs.Statements.{exec, exec_stage, exec_block, exec_chain_stmt, exec_token_stmt, exec_declare, exec_assign, eval_test, while_loop, for_loop, exec_for_init, eval_for_test, exec_for_next, initial_value, exec_join_stage}
use Rattle.sal_handler.proofs.Executions as x

pub exec-Empty : (at : ℕ) (r : Context) (s : State) → exec (t.Empty at) r s ≡ pure Next s
exec-Empty at r s = ap (λ f. f s) (x.exec-Empty at r)

pub exec-Block : (at : ℕ) (list : List Stmt) (r : Context) (s : State) → exec (t.Block at list) r s ≡ exec_block list r s
exec-Block at list r s = ap (λ f. f s) (x.exec-Block at list r)

pub exec-Declare : (d : Declare) (r : Context) (s : State) → exec (t.Declare d) r s ≡ (exec_declare d r >> pure Next) s
exec-Declare d r s = ap (λ f. f s) (x.exec-Declare d r)

pub exec-Assign : (a : Assign) (r : Context) (s : State) → exec (t.Assign a) r s ≡ (exec_assign a r >> pure Next) s
exec-Assign a r s = ap (λ f. f s) (x.exec-Assign a r)

pub exec-IfNone : (at : ℕ) (test : Expr) (a : Stmt) (r : Context) (s : State) → exec (t.If at test a None) r s ≡ (eval_test test r >>= (λ b. if b then in_new_scope (exec a r) else pure Next)) s
exec-IfNone at test a r s = ap (λ f. f s) (x.exec-IfNone at test a r)

pub exec-IfSome : (at : ℕ) (test : Expr) (a b : Stmt) (r : Context) (s : State) → exec (t.If at test a (Some b)) r s ≡ (eval_test test r >>= (λ c. if c then in_new_scope (exec a r) else in_new_scope (exec b r))) s
exec-IfSome at test a b r s = ap (λ f. f s) (x.exec-IfSome at test a b r)

pub exec-While : (at : ℕ) (test : Expr) (body : Stmt) (r : Context) (s : State) → exec (t.While at test body) r s ≡ while_loop (eval_test test r) (exec body r) s
exec-While at test body r s = ap (λ f. f s) (x.exec-While at test body r)

pub exec-For : (at : ℕ) (first : ForInit) (test : Option Expr) (next : Option Assign) (body : Stmt) (r : Context) (s : State) → exec (t.For at first test next body) r s ≡ for_loop (exec_for_init first r) (eval_for_test test r) (exec_for_next next r) (exec body r) s
exec-For at first test next body r s = ap (λ f. f s) (x.exec-For at first test next body r)

pub exec-Return : (at : ℕ) (value : Option Expr) (r : Context) (s : State) → exec (t.Return at value) r s ≡ (initial_value value Null r >>= (λ v. pure (Returned v))) s
exec-Return at value r s = ap (λ f. f s) (x.exec-Return at value r)

pub exec-Token : (at : ℕ) (name : Ident) (c : Chain) (r : Context) (s : State) → exec (t.Token at name c) r s ≡ exec_token_stmt name.text (map exec_stage c.stages) r s
exec-Token at name c r s = ap (λ f. f s) (x.exec-Token at name c r)

pub exec-Chain : (c : Chain) (passed : Option ℕ) (r : Context) (s : State) → exec (t.Chain c passed) r s ≡ exec_chain_stmt passed (map exec_stage c.stages) r s
exec-Chain c passed r s = ap (λ f. f s) (x.exec-Chain c passed r)

pub stage-Message : (m : Send) (r : Context) (before : Option ℕ) (last : End) (s : State) → exec_stage (g.Message m) r before last s ≡ message m r before last s
stage-Message m r before last s = ap (λ f. f r before last s) (x.stage-Message m)

pub stage-Join : (at : ℕ) (body : List Stmt) (r : Context) (before : Option ℕ) (last : End) (s : State) → exec_stage (g.Join at body) r before last s ≡ exec_join_stage (λ u. is_void_join body (scope_of r u)) (exec_block body) r before last s
stage-Join at body r before last s = ap (λ f. f before last s) (x.stage-Join at body r)

pub ruleset executions = (exec-Empty, exec-Block, exec-Declare, exec-Assign, exec-IfNone, exec-IfSome, exec-While, exec-For, exec-Return, exec-Token, exec-Chain, stage-Message, stage-Join)
