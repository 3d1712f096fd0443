-- What is known of the parts of a statement in which nothing is violated.
use Rattle.std.specs.Prelude.{◌≡◌, ◌≤◌, ◌<◌, ℕ, true, false, if◌then◌else◌, List, [], ◌∷◌, ◌++◌, length, Option, Some, None}
use Rattle.sal_ast.specs.declared.expression.Expr.{Expr}
use Rattle.sal_ast.specs.declared.statement.Declare.{Declare}
use Rattle.sal_ast.specs.declared.statement.Assign.{Assign}
use Rattle.sal_ast.specs.declared.statement.ForInit.{ForInit}
use Rattle.sal_ast.specs.declared.statement.ForInit.TheVariants as init
use Rattle.sal_ast.specs.declared.statement.Stage.{Stage}
use Rattle.sal_ast.specs.declared.statement.Stmt.{Stmt}
use Rattle.sal_ast.specs.declared.statement.Chain.{Chain}
use Rattle.sal_ast.specs.declared.statement.Stage.TheOpen.{Stage-F, Stmt-F}
use Rattle.sal_sorts.specs.declared.sort.Base.TheVariants.{Int, Boolean, Void}
use Rattle.sal_sorts.specs.declared.sort.Sort.{Sort}
use Rattle.sal_sorts.specs.declared.variable.Variable.{Variable}
use Rattle.sal_sorts.specs.Sorts.{plain, is_void_sort, sort_below, array_sort, sort_of_type}
use Rattle.sal_sorts.specs.Environments.{Environment, is_assignable, field_with_name, variable_with_name, is_free, with_variable}
use Rattle.sal_sorts.specs.Messages.{or_void, message_verdict}
use Rattle.sal_sorts.specs.Verdicts.{Good}
use Rattle.sal_types.specs.Statements.{join_environment, for_init_typing, stmt_typing, stage_typing}
use Rattle.sal_typing.specs.Known.{Each}
use Rattle.sal_typing.specs.Parts.{HasSort, HasSortIfAny, IsWritten}

-- ---- statements and stages that violate nothing

-- a statement, with the results of its chain statements
abbrev pub HasResults : Environment → Stmt → List Sort → Type 0
HasResults env st results = (stmt_typing st env).1 ≡ Good results

-- what is known after it
abbrev pub after_stmt : Environment → Stmt → Environment
after_stmt env st = with_variable env (stmt_typing st env).0

-- statements, each after those before it
abbrev pub SequenceParts : List Stmt → Environment → List Sort → Type 0
SequenceParts [] env results = [] ≡ results
SequenceParts (st ∷ sts) env results =
    (here : List Sort) × (later : List Sort) × HasResults env st here × SequenceParts sts (after_stmt env st) later × (here ++ later ≡ results)

-- a stage, behind one with this result
abbrev pub StageHasSort : Environment → Option Sort → Stage → Sort → Type 0
StageHasSort env before g s = (stage_typing g).1 env before ≡ Good s

-- stages, each behind the one before it; the result is the last one's
abbrev pub StagesParts : Option Sort → List Stage → Environment → Sort → Type 0
StagesParts before [] env s = or_void before ≡ s
StagesParts before (g ∷ gs) env s = (t : Sort) × StageHasSort env before g t × StagesParts (Some t) gs env s

-- ---- parts

-- a value that may be missing, assignable to this type
abbrev pub ValueParts : Option Expr → Environment → Sort → Type 0
ValueParts None env to = Unit {0}
ValueParts (Some e) env to = (s : Sort) × HasSort env e s × (is_assignable env s to ≡ true)

-- a declaration
abbrev pub DeclareParts : Declare → Environment → Type 0
DeclareParts d env = IsWritten d.sort env (sort_of_type d.sort) × ValueParts d.init env (sort_of_type d.sort) × (is_free d.name.text env ≡ true)

-- what is assigned to
abbrev pub assigned_variable : Assign → Environment → Option Variable
assigned_variable a env = if a.own then field_with_name a.name.text env else variable_with_name a.name.text env

-- an assignment to a variable that is no token, or to an item of it
pub record AssignParts (a : Assign) (env : Environment) : Type 0 where
  pub variable : Variable
  pub found : assigned_variable a env ≡ Some variable
  pub no_token : variable.is_token ≡ false
  pub indexes : Each (λ e. HasSort env e (plain Int)) a.indexes
  pub levels : length a.indexes ≤ variable.sort.dims
  pub value : Sort
  pub typed : HasSort env a.value value
  pub fits : is_assignable env value (sort_below variable.sort (length a.indexes)) ≡ true

-- an assignment that may be missing
abbrev pub NextParts : Option Assign → Environment → Type 0
NextParts None env = Unit {0}
NextParts (Some a) env = AssignParts a env

-- the first part of a `for`
abbrev pub InitParts : ForInit → Environment → Type 0
InitParts init.Nothing env = Unit {0}
InitParts (init.Declare d) env = DeclareParts d env
InitParts (init.Assign a) env = AssignParts a env

-- what is known after it
abbrev pub after_init : Environment → ForInit → Environment
after_init env i = with_variable env (for_init_typing i env).0

-- what stands after `else`
abbrev pub ElseParts : Option Stmt → Environment → List Sort → Type 0
ElseParts None env results = [] ≡ results
ElseParts (Some st) env results = HasResults env st results

-- what is returned
abbrev pub ReturnParts : Option Expr → Environment → Type 0
ReturnParts None env = env.result ≡ plain Void
ReturnParts (Some e) env = ValueParts (Some e) env env.result

-- the reply is passed on, or isn't
abbrev pub PassedParts : Option ℕ → Environment → Sort → Type 0
PassedParts None env s = Unit {0}
PassedParts (Some at) env s = (env.in_join ≡ false) × (s ≡ env.result)

-- a join of one result: `void`, or the array
abbrev pub JoinParts : List Sort → Sort → Type 0
JoinParts [] s = ⊥
JoinParts (t ∷ ts) s = Each (λ u. t ≡ u) ts × (t.dims < 8) × ((if is_void_sort t then t else array_sort t) ≡ s)

-- ---- each form

-- the parts of a statement with these results
abbrev pub StmtParts : Stmt-F Stage Stmt Chain → Environment → List Sort → Type 0
StmtParts (Stmt-F.Empty at) env results = [] ≡ results
StmtParts (Stmt-F.Block at list) env results = SequenceParts list env results
StmtParts (Stmt-F.Declare d) env results = DeclareParts d env × ([] ≡ results)
StmtParts (Stmt-F.Assign a) env results = AssignParts a env × ([] ≡ results)
StmtParts (Stmt-F.If at test first second) env results =
    (here : List Sort) × (later : List Sort) × HasSort env test (plain Boolean) × HasResults env first here × ElseParts second env later × (here ++ later ≡ results)
StmtParts (Stmt-F.While at test body) env results = HasSort env test (plain Boolean) × HasResults env body results
StmtParts (Stmt-F.For at first test next body) env results =
    InitParts first env × HasSortIfAny (after_init env first) test (plain Boolean) × NextParts next (after_init env first) × HasResults (after_init env first) body results
StmtParts (Stmt-F.Return at value) env results = ReturnParts value env × (env.in_join ≡ false) × ([] ≡ results)
StmtParts (Stmt-F.Token at name chain) env results =
    (s : Sort) × StagesParts None chain.stages env s × (is_free name.text env ≡ true) × (env.in_join ≡ false) × ([] ≡ results)
StmtParts (Stmt-F.Chain chain passed) env results = (s : Sort) × StagesParts None chain.stages env s × PassedParts passed env s × (s ∷ [] ≡ results)

-- the parts of a stage with this result
abbrev pub StageParts : Stage-F Stage Stmt Chain → Environment → Option Sort → Sort → Type 0
StageParts (Stage-F.Message m) env before s = message_verdict m env before ≡ Good s
StageParts (Stage-F.Join at body) env before s = (results : List Sort) × SequenceParts body (join_environment env) results × JoinParts results s
