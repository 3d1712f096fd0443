-- What holds of the parts of typed programs.
use Rattle.std.specs.Prelude.{◌≡◌, ◌≤◌, ℕ, Bool, true, List, length, Option, None}
use Rattle.sal_ast.specs.declared.expression.Expr.{Expr, out-Expr}
use Rattle.sal_ast.specs.declared.statement.Send.{Send}
use Rattle.sal_ast.specs.declared.statement.Stmt.{Stmt, out-Stmt}
use Rattle.sal_ast.specs.declared.statement.Stage.{Stage, out-Stage}
use Rattle.sal_ast.specs.declared.statement.Chain.{Chain}
use Rattle.sal_ast.specs.Regular.{form_of, chain_is_regular, block_is_regular}
use Rattle.sal_ast.specs.Sorts.{sort_of, message_result, scope_change, result_of, is_void_join}
use Rattle.sal_sorts.specs.declared.sort.Sort.{Sort}
use Rattle.sal_sorts.specs.Sorts.{is_void_sort}
use Rattle.sal_sorts.specs.Environments.{Environment}
use Rattle.sal_sorts.specs.Expressions.{expr_verdict}
use Rattle.sal_sorts.specs.Messages.{message_verdict}
use Rattle.sal_sorts.specs.Verdicts.{Good}
use Rattle.sal_types.specs.Statements.{sequence_verdict, fits_join, join_sort, join_environment, stages_verdict, stmt_typing, chain_typing, stmt_typings}
use Rattle.sal_typing.specs.Numbers.{number_sort, scope_of}
use Rattle.sal_typing.specs.Known.{IsReplySort, IsExprSort, IsKnown}
use Rattle.sal_typing.specs.Agreement.{ScopesAgree}
use Rattle.sal_typing.specs.Parts.{ExprParts, MessageParts}
use Rattle.sal_typing.specs.StatementParts.{HasResults, StmtParts, StageHasSort, StageParts}

-- ---- the types that the meaning reads off the text

-- Of a typed expression it is the checker's.
abbrev pub ExpressionsHaveTheirSorts : Type 0
ExpressionsHaveTheirSorts =
    (env : Environment) (mine : ℕ) → IsKnown env mine → (e : Expr) (minus : Bool) (s : Sort) → expr_verdict e env minus ≡ Good s
    → (sort_of e (scope_of env mine) ≡ number_sort s env.behaviors) × IsExprSort s env.behaviors

-- Of the reply of a typed message it is the checker's.
abbrev pub MessagesHaveTheirSorts : Type 0
MessagesHaveTheirSorts =
    (env : Environment) (mine : ℕ) → IsKnown env mine → (m : Send) (before : Option Sort) (s : Sort) → message_verdict m env before ≡ Good s
    → (message_result m (scope_of env mine) ≡ number_sort s env.behaviors) × IsReplySort s env.behaviors

-- A typed statement brings the same names into scope for the checker and for the meaning, with the same types, and the meaning
-- reads off it the type of the first result.
abbrev pub StatementsKeepScopes : Type 0
StatementsKeepScopes =
    (env : Environment) (mine : ℕ) → IsKnown env mine → (st : Stmt) → (form_of st).regular ≡ true → (results : List Sort) → (stmt_typing st env).1 ≡ Good results
    → ScopesAgree env mine (stmt_typing st env).0 results (scope_change st (scope_of env mine))

-- Of the result of a typed chain it is the checker's.
abbrev pub ChainsHaveTheirSorts : Type 0
ChainsHaveTheirSorts =
    (env : Environment) (mine : ℕ) → IsKnown env mine → (c : Chain) → chain_is_regular c ≡ true → (s : Sort) → stages_verdict None (chain_typing c) env ≡ Good s
    → (result_of c (scope_of env mine) ≡ number_sort s env.behaviors) × IsReplySort s env.behaviors

-- A typed join is void for the meaning where it is void for the checker.
abbrev pub VoidJoinsAreVoid : Type 0
VoidJoinsAreVoid =
    (env : Environment) (mine : ℕ) → IsKnown env mine → (body : List Stmt) → block_is_regular body ≡ true → (results : List Sort)
    → sequence_verdict (stmt_typings body) (join_environment env) ≡ Good results → fits_join results ≡ true
    → is_void_join body (scope_of env mine) ≡ is_void_sort (join_sort results)

-- ---- the parts of what is typed

-- Each part of a typed expression is typed, and fits the others.
abbrev pub ExpressionsHaveParts : Type 0
ExpressionsHaveParts = (env : Environment) (e : Expr) (minus : Bool) (s : Sort) → expr_verdict e env minus ≡ Good s → ExprParts (out-Expr e) env minus s

-- Each part of a typed message is typed, and its target has the handler, which takes the arguments.
abbrev pub MessagesHaveParts : Type 0
MessagesHaveParts =
    (env : Environment) → length env.behaviors ≤ 64 → (m : Send) (before : Option Sort) (s : Sort) → message_verdict m env before ≡ Good s
    → MessageParts env before m s

-- Each part of a typed statement is typed, and fits the others.
abbrev pub StatementsHaveParts : Type 0
StatementsHaveParts = (env : Environment) (st : Stmt) (results : List Sort) → HasResults env st results → StmtParts (out-Stmt st) env results

-- So is each part of a typed stage.
abbrev pub StagesHaveParts : Type 0
StagesHaveParts = (env : Environment) (before : Option Sort) (g : Stage) (s : Sort) → StageHasSort env before g s → StageParts (out-Stage g) env before s
