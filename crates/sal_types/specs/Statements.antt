-- The verdict on a statement, and the name that it brings into scope.
use Rattle.std.specs.Prelude.{ℕ, Bool, true, false, not, ◌&&◌, ◌||◌, nat_lt, nat_le, if◌then◌else◌, List, [], ◌∷◌, ◌++◌, length, map, Option, Some, None}
use Rattle.std.specs.List.{list_all}
use Rattle.sal_ast.specs.declared.program.Ident.{Ident}
use Rattle.sal_ast.specs.declared.expression.Expr.{Expr}
use Rattle.sal_ast.specs.declared.statement.Declare.{Declare}
use Rattle.sal_ast.specs.declared.statement.Assign.{Assign}
use Rattle.sal_ast.specs.declared.statement.ForInit.{ForInit}
use Rattle.sal_ast.specs.declared.statement.ForInit.TheVariants as init
use Rattle.sal_ast.specs.declared.statement.Stage.{Stage}
use Rattle.sal_ast.specs.declared.statement.Stmt.{Stmt}
use Rattle.sal_ast.specs.declared.statement.Chain.{Chain}
use Rattle.sal_ast.specs.declared.statement.Stage.TheOpen.{Stage-F, Stmt-F, Chain-F}
use Rattle.sal_ast.specs.declared.statement.Stage.TheFolds.{fold-Stage, fold-Stmt, fold-Chain}
use Rattle.sal_sorts.specs.declared.sort.Base.TheVariants.{Void}
use Rattle.sal_sorts.specs.declared.sort.Sort.{Sort}
use Rattle.sal_sorts.specs.declared.variable.Variable.{Variable}
use Rattle.sal_sorts.specs.Sorts.{plain, is_same_sort, is_int_sort, is_boolean_sort, is_void_sort, sort_below, array_sort, sort_of_type}
use Rattle.sal_sorts.specs.Environments.{Environment, is_assignable, field_with_name, variable_with_name, is_free, with_variable, new_variable, is_constructor}
use Rattle.sal_sorts.specs.Verdicts.{Violation, Verdict, Good, Bad, ◌also◌, node, map_verdict, bind_verdict, rule}
use Rattle.sal_sorts.specs.Starts.{expr_start, message_start}
use Rattle.sal_sorts.specs.Expressions.{type_verdict, variable_verdict, permission_rules, index_rules, verdict_of_exprs, expr_verdict, expr_verdicts, expr_verdict_if}
use Rattle.sal_sorts.specs.Messages.{or_void, message_verdict}

-- What a statement is where it stands: the name that it brings into scope, and the results of the chain statements in it, but for
-- those in the block of a join in it.
abbrev pub StmtTyping : Type 0
StmtTyping = Environment → Option Variable × Verdict (List Sort)

-- a stage of a chain, after a stage with this result
abbrev pub StageTyping : Type 0
StageTyping = Environment → Option Sort → Verdict Sort

-- a stage, with the offset of its first token
abbrev pub StageWithStart : Type 0
StageWithStart = ℕ × StageTyping

-- it brings no name
abbrev pub with_no_name : Verdict (List Sort) → Option Variable × Verdict (List Sort)
with_no_name v = (None, v)

-- it has no chain statements
abbrev pub no_results : {A : Type 0} → A → List Sort
no_results a = []

-- ---- rules of several statements

-- Y7: in a constructor, a statement that is neither empty nor an assignment to a field
abbrev pub statement_rules : Environment → ℕ → List Violation
statement_rules env at = permission_rules (not (is_constructor env.member)) at

-- Y9: a parameter, local or token has a name already in scope in this handler
abbrev pub free_rules : Ident → Environment → List Violation
free_rules name env = rule 9 name.at (is_free name.text env)

-- Y21: a value isn't assignable to what it initialises or is assigned to
abbrev pub value_rules : Expr → Sort → Sort → Environment → List Violation
value_rules e value to env = rule 21 (expr_start e) (is_assignable env value to)

-- the value of a declaration, if it has one
abbrev pub initial_rules : Option Expr → Option Sort → Sort → Environment → List Violation
initial_rules (Some e) (Some value) to env = value_rules e value to env
initial_rules (Some e) None to env = []
initial_rules None value to env = []

-- Y22: a condition isn't boolean
abbrev pub condition_rules : Expr → Sort → List Violation
condition_rules test s = rule 22 (expr_start test) (is_boolean_sort s)

-- a condition that may be missing
abbrev pub loop_rules : Option Expr → Option Sort → List Violation
loop_rules (Some test) (Some s) = condition_rules test s
loop_rules (Some test) None = []
loop_rules None s = []

-- Y29: in a join's block `return`, `token x =` or `currentContinuation`; elsewhere `currentContinuation` after a chain whose
-- result isn't the handler's
abbrev pub leave_rules : ℕ → Bool → List Violation
leave_rules at fits = rule 29 at fits

-- ---- declarations and assignments

-- a declaration, with rules of its place
abbrev pub declare_verdict : List Violation → Declare → Environment → Verdict (List Sort)
declare_verdict rules d env =
    node (type_verdict d.sort env also expr_verdict_if d.init env)
    (λ p. rules ++ free_rules d.name env ++ initial_rules d.init p.1 p.0 env)
    no_results

-- with its name
abbrev pub declare_typing : List Violation → Declare → StmtTyping
declare_typing rules d env = (new_variable d.name (sort_of_type d.sort) false, declare_verdict rules d env)

-- what is assigned to
abbrev pub target_verdict : Assign → Environment → Verdict Sort
target_verdict a env = variable_verdict a.name.at (if a.own then field_with_name a.name.text env else variable_with_name a.name.text env)

-- its value is stored so many levels below
abbrev pub store_rules : Assign → Sort → List Sort → Sort → Environment → List Violation
store_rules a to indexes value env =
    if nat_le (length indexes) to.dims && list_all is_int_sort indexes then value_rules a.value value (sort_below to (length indexes)) env
    else index_rules a.name.at false

-- an assignment, with rules of its place
abbrev pub assign_verdict : List Violation → Assign → Environment → Verdict (List Sort)
assign_verdict rules a env =
    node (target_verdict a env also verdict_of_exprs (expr_verdicts a.indexes) env also expr_verdict a.value env false)
    (λ p. rules ++ store_rules a p.0.0 p.0.1 p.1 env)
    no_results

-- in a constructor it is one to a field
abbrev pub assignment_rules : Assign → Environment → List Violation
assignment_rules a env = permission_rules (not (is_constructor env.member) || (a.own || is_free a.name.text env)) a.name.at

-- ---- blocks and loops

-- one statement after another, each with the names of those before it
abbrev pub sequence_verdict : List StmtTyping → Environment → Verdict (List Sort)
sequence_verdict [] env = Good []
sequence_verdict (m ∷ ms) env = map_verdict (λ p. p.0 ++ p.1) ((m env).1 also sequence_verdict ms (with_variable env (m env).0))

-- what stands after `else`
abbrev pub else_verdict : Option StmtTyping → Environment → Verdict (List Sort)
else_verdict None env = Good []
else_verdict (Some m) env = (m env).1

-- the first part of a `for`; it is no statement of its own
abbrev pub for_init_typing : ForInit → StmtTyping
for_init_typing init.Nothing env = with_no_name (Good [])
for_init_typing (init.Declare d) env = declare_typing [] d env
for_init_typing (init.Assign a) env = with_no_name (assign_verdict [] a env)

-- the last part
abbrev pub for_next_verdict : Option Assign → Environment → Verdict (List Sort)
for_next_verdict None env = Good []
for_next_verdict (Some a) env = assign_verdict [] a env

-- the parts of a `for` after the first: its condition, and the results of its chain statements
abbrev pub for_turn_verdict : Option Expr → Option Assign → StmtTyping → Environment → Verdict (Option Sort × List Sort)
for_turn_verdict test next body env =
    map_verdict (λ p. (p.0.0, p.1)) (expr_verdict_if test env also for_next_verdict next env also (body env).1)

-- ---- `return`

-- whether the handler may return this
abbrev pub fits_result : Option Sort → Environment → Bool
fits_result None env = is_void_sort env.result
fits_result (Some s) env = is_assignable env s env.result

-- Y23: `return` without a value in a handler with a result, with one in a void handler, or with one not assignable
abbrev pub return_rules : ℕ → Option Sort → Environment → List Violation
return_rules at value env = rule 23 at (fits_result value env)

-- ---- chains and joins

-- one result, of which there are arrays
abbrev pub fits_join : List Sort → Bool
fits_join [] = false
fits_join (s ∷ ss) = list_all (is_same_sort s) ss && nat_lt s.dims 8

-- Y30: a join's block holds no chain statement of its own, or two of different results, or an array of more than 8
-- dimensions would result
abbrev pub join_rules : ℕ → List Sort → List Violation
join_rules at results = rule 30 at (fits_join results)

-- void, or the array of the results
abbrev pub join_sort : List Sort → Sort
join_sort [] = plain Void
join_sort (s ∷ ss) = if is_void_sort s then s else array_sort s

-- in a join's block
abbrev pub join_environment : Environment → Environment
join_environment env = record env { in_join = true }

-- a join
abbrev pub join_typing : ℕ → List StmtTyping → StageTyping
join_typing at body env before = node (sequence_verdict body (join_environment env)) (join_rules at) join_sort

-- Each stage is judged where the one before it is typed. The result is the last one's.
abbrev pub stages_verdict : Option Sort → List StageWithStart → Environment → Verdict Sort
stages_verdict before [] env = Good (or_void before)
stages_verdict before (m ∷ ms) env = bind_verdict (m.1 env before) (λ s. stages_verdict (Some s) ms env)

-- the offset of the first token of a chain
abbrev pub chain_start : List StageWithStart → ℕ
chain_start [] = 0
chain_start (m ∷ ms) = m.0

-- the result of a chain for a token; where it isn't typed, void
abbrev pub sort_or_void : Verdict Sort → Sort
sort_or_void (Good s) = s
sort_or_void (Bad v vs) = plain Void

-- a chain that passes the reply on, or doesn't
abbrev pub continuation_rules : Option ℕ → Sort → Environment → List Violation
continuation_rules None result env = []
continuation_rules (Some at) result env = leave_rules at (not env.in_join && is_same_sort result env.result)

-- ---- the forms of statements

-- a stage, with the offset of its first token
abbrev pub stage_step : Stage-F StageWithStart StmtTyping (List StageWithStart) → StageWithStart
stage_step (Stage-F.Message m) = (message_start m, message_verdict m)
stage_step (Stage-F.Join at body) = (at, join_typing at body)

-- the stages of a chain
abbrev pub chain_step : Chain-F StageWithStart StmtTyping (List StageWithStart) → List StageWithStart
chain_step c = c.stages

-- what each form is, made of what its parts are
abbrev pub stmt_step : Stmt-F StageWithStart StmtTyping (List StageWithStart) → StmtTyping
stmt_step (Stmt-F.Empty at) env = with_no_name (Good [])
stmt_step (Stmt-F.Block at list) env = with_no_name (node (sequence_verdict list env) (λ ss. statement_rules env at) (λ ss. ss))
stmt_step (Stmt-F.Declare d) env = declare_typing (statement_rules env d.sort.at) d env
stmt_step (Stmt-F.Assign a) env = with_no_name (assign_verdict (assignment_rules a env) a env)
stmt_step (Stmt-F.If at test first second) env =
    with_no_name
    (node (expr_verdict test env false also (first env).1 also else_verdict second env)
    (λ p. statement_rules env at ++ condition_rules test p.0.0)
    (λ p. p.0.1 ++ p.1))
stmt_step (Stmt-F.While at test body) env =
    with_no_name
    (node (expr_verdict test env false also (body env).1)
    (λ p. statement_rules env at ++ condition_rules test p.0)
    (λ p. p.1))
stmt_step (Stmt-F.For at first test next body) env =
    with_no_name
    (node ((for_init_typing first env).1 also for_turn_verdict test next body (with_variable env (for_init_typing first env).0))
    (λ p. statement_rules env at ++ loop_rules test p.1.0)
    (λ p. p.1.1))
stmt_step (Stmt-F.Return at value) env =
    with_no_name
    (node (expr_verdict_if value env)
    (λ s. statement_rules env at ++ return_rules at s env ++ leave_rules at (not env.in_join))
    no_results)
stmt_step (Stmt-F.Token at name chain) env = (
  new_variable name (sort_or_void (stages_verdict None chain env)) true,
  node (stages_verdict None chain env)
      (λ s. statement_rules env at ++ free_rules name env ++ leave_rules at (not env.in_join))
      no_results,
)
stmt_step (Stmt-F.Chain chain passed) env =
    with_no_name
    (node (stages_verdict None chain env)
    (λ s. statement_rules env (chain_start chain) ++ continuation_rules passed s env)
    (λ s. s ∷ []))

-- what a statement is
unfoldable pub stmt_typing : Stmt → StmtTyping
stmt_typing = fold-Stmt StageWithStart StmtTyping (List StageWithStart) stage_step stmt_step chain_step

-- what a stage is
unfoldable pub stage_typing : Stage → StageWithStart
stage_typing = fold-Stage StageWithStart StmtTyping (List StageWithStart) stage_step stmt_step chain_step

-- what the stages of a chain are
unfoldable pub chain_typing : Chain → List StageWithStart
chain_typing = fold-Chain StageWithStart StmtTyping (List StageWithStart) stage_step stmt_step chain_step

-- what each is
abbrev pub stmt_typings : List Stmt → List StmtTyping
stmt_typings = map stmt_typing
