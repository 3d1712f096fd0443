-- How loops end. The bound on tests in a loop's definition never shows.
use Rattle.std.specs.Prelude.{◌≡◌, ℕ, ◌+◌, ◌≤◌, List, Option, Ok}
use Rattle.sal_ast.specs.declared.expression.Expr.{Expr}
use Rattle.sal_ast.specs.declared.statement.Assign.{Assign}
use Rattle.sal_ast.specs.declared.statement.Stmt.{Stmt}
use Rattle.sal_handler.specs.declared.state.Flow.{Flow}
use Rattle.sal_handler.specs.declared.state.State.{State}
use Rattle.sal_handler.specs.Scopes.{Context, in_new_scope}
use Rattle.sal_handler.specs.Statements.{exec, exec_block, eval_test, eval_for_test, exec_for_next, for_turn, bounded_loop, loop_bound}
use Rattle.sal_handler.specs.declared.constants.TheConstants.{MOST_TURNS}

-- With any greater bound a loop does the same. So nothing stops it but its test, a trap, a return,
-- `@ currentContinuation` and the shared count of turns; and that count never passes 100,000.
pub record LoopsStopThemselves : Type 0 where
  pub while_loops : (test : Expr) (body : Stmt) (r : Context) (s : State) (more : ℕ) → s.turns ≤ MOST_TURNS →
      bounded_loop (loop_bound + more) (eval_test test r) (in_new_scope (exec body r)) s ≡ bounded_loop loop_bound (eval_test test r) (in_new_scope (exec body r)) s
  pub for_loops : (test : Option Expr) (next : Option Assign) (body : Stmt) (r : Context) (s : State) (more : ℕ) → s.turns ≤ MOST_TURNS →
      bounded_loop (loop_bound + more) (eval_for_test test r) (for_turn (exec body r) (exec_for_next next r)) s ≡ bounded_loop loop_bound (eval_for_test test r) (for_turn (exec body r) (exec_for_next next r)) s
  pub turns : (body : List Stmt) (r : Context) (s t : State) (f : Flow) → s.turns ≤ MOST_TURNS → exec_block body r s ≡ Ok (f, t) → t.turns ≤ MOST_TURNS
