-- The first violation in a statement, a member or a program, as the code finds it.
use Rattle.std.specs.Prelude.{ℕ, Bool, false, not, List, [], ◌∷◌, ◌++◌, length, map, Option, Some, None, option_map, nat_lt, Result, Ok}
use Rattle.sal_ast.specs.declared.program.Ident.{Ident}
use Rattle.sal_ast.specs.declared.program.TypeName.{TypeName}
use Rattle.sal_ast.specs.declared.program.Param.{Param}
use Rattle.sal_ast.specs.declared.program.Member.{Member}
use Rattle.sal_ast.specs.declared.program.Behavior.{Behavior}
use Rattle.sal_ast.specs.declared.program.Program.{Program}
use Rattle.sal_ast.specs.declared.expression.Expr.{Expr}
use Rattle.sal_ast.specs.declared.statement.Declare.{Declare}
use Rattle.sal_ast.specs.declared.statement.Assign.{Assign}
use Rattle.sal_ast.specs.declared.statement.ForInit.{ForInit}
use Rattle.sal_ast.specs.declared.statement.Stage.{Stage}
use Rattle.sal_ast.specs.declared.statement.Stmt.{Stmt}
use Rattle.sal_ast.specs.declared.statement.Chain.{Chain}
use Rattle.sal_sorts.specs.declared.sort.Sort.{Sort}
use Rattle.sal_sorts.specs.Environments.{Environment, with_variable}
use Rattle.sal_sorts.specs.Verdicts.{Violation}
use Rattle.sal_sorts.specs.Refusals.{first, fine, and_then}
use Rattle.sal_sorts.specs.Expressions.{type_verdict, permission_rules, verdict_of_exprs, expr_verdict, expr_verdicts, expr_verdict_if}
use Rattle.sal_types.specs.Statements.{StmtTyping, statement_rules, free_rules, initial_rules, leave_rules, target_verdict, store_rules, sequence_verdict, else_verdict, for_init_typing, for_next_verdict, for_turn_verdict, return_rules, stages_verdict, chain_start, stmt_typing, stage_typing, stmt_typings}
use Rattle.sal_types.specs.Members.{count_rules, second_rules, param_typing, body_verdict, field_rules, constructor_name_rules, result_verdict, declared_handler_rules, member_verdict, members_verdict}
use Rattle.sal_types.specs.Programs.{behavior_name_rules, behavior_verdict, behaviors_verdict, program_verdict}

-- ---- statements

-- a statement: the results of its chain statements
unfoldable pub check_stmt : Stmt → Environment → Result (List Sort) Violation
check_stmt s env = first (stmt_typing s env).1

-- what is known after it
unfoldable pub after_stmt : Stmt → Environment → Environment
after_stmt s env = with_variable env (stmt_typing s env).0

-- what is known after several, one after another
abbrev pub after_typings : List StmtTyping → Environment → Environment
after_typings [] env = env
after_typings (m ∷ ms) env = after_typings ms (with_variable env (m env).0)

-- several statements, after these results
unfoldable pub check_stmts : List Sort → List Stmt → Environment → Result (List Sort) Violation
check_stmts done body env = and_then (first (sequence_verdict (stmt_typings body) env)) (λ results. Ok (done ++ results))

-- what is known after them
unfoldable pub after_stmts : List Stmt → Environment → Environment
after_stmts body env = after_typings (stmt_typings body) env

-- what stands after `else`, after these results
unfoldable pub check_else : List Sort → Option Stmt → Environment → Result (List Sort) Violation
check_else done s env = and_then (first (else_verdict (option_map stmt_typing s) env)) (λ results. Ok (done ++ results))

-- a stage, after a stage with this result
unfoldable pub check_stage : Stage → Environment → Option Sort → Result Sort Violation
check_stage g env before = first ((stage_typing g).1 env before)

-- stages, after a stage with this result
unfoldable pub check_stages : Option Sort → List Stage → Environment → Result Sort Violation
check_stages before gs env = first (stages_verdict before (map stage_typing gs) env)

-- the offset of a stage's first token
unfoldable pub stage_start : Stage → ℕ
stage_start g = (stage_typing g).0

-- that of a chain
unfoldable pub start_of_chain : Chain → ℕ
start_of_chain c = chain_start (map stage_typing c.stages)

-- ---- parts of statements

-- a declaration where it is allowed or not
unfoldable pub check_declare : Bool → Declare → Environment → Result (Unit {0}) Violation
check_declare allowed d env =
    and_then (first (type_verdict d.sort env)) (λ sort. and_then (first (expr_verdict_if d.init env)) (λ value.
    and_then (fine (permission_rules allowed d.sort.at)) (λ u. and_then (fine (free_rules d.name env)) (λ w. fine (initial_rules d.init value sort env)))))

-- an assignment where it is allowed or not
unfoldable pub check_assign : Bool → Assign → Environment → Result (Unit {0}) Violation
check_assign allowed a env =
    and_then (first (target_verdict a env)) (λ to. and_then (first (verdict_of_exprs (expr_verdicts a.indexes) env)) (λ indexes.
    and_then (first (expr_verdict a.value env false)) (λ value.
    and_then (fine (permission_rules allowed a.name.at)) (λ u. fine (store_rules a to indexes value env)))))

-- the first part of a `for`
unfoldable pub check_for_init : ForInit → Environment → Result (Unit {0}) Violation
check_for_init init env = and_then (first (for_init_typing init env).1) (λ results. Ok tt)

-- what is known after it
unfoldable pub after_for_init : ForInit → Environment → Environment
after_for_init init env = with_variable env (for_init_typing init env).0

-- the last part of a `for`
unfoldable pub check_for_next : Option Assign → Environment → Result (Unit {0}) Violation
check_for_next next env = and_then (first (for_next_verdict next env)) (λ results. Ok tt)

-- the parts of a `for` after the first: its condition, and the results of its chain statements
unfoldable pub check_for_turn : Option Expr → Option Assign → Stmt → Environment → Result (Option Sort × List Sort) Violation
check_for_turn test next body env = first (for_turn_verdict test next (stmt_typing body) env)

-- `return`
unfoldable pub check_return : ℕ → Option Expr → Environment → Result (Unit {0}) Violation
check_return at value env =
    and_then (first (expr_verdict_if value env)) (λ sort.
    and_then (fine (statement_rules env at)) (λ u. and_then (fine (return_rules at sort env)) (λ w. fine (leave_rules at (not env.in_join)))))

-- a token's own rules
unfoldable pub check_token : ℕ → Ident → Environment → Result (Unit {0}) Violation
check_token at name env =
    and_then (fine (statement_rules env at)) (λ u. and_then (fine (free_rules name env)) (λ w. fine (leave_rules at (not env.in_join))))

-- ---- parameters and bodies

-- a parameter
unfoldable pub check_param : Param → Environment → Result (Unit {0}) Violation
check_param p env =
    and_then (first (type_verdict p.sort env)) (λ sort. and_then (fine (count_rules 16 (length env.scope) p.name.at)) (λ u. fine (free_rules p.name env)))

-- what is known after it
unfoldable pub after_param : Param → Environment → Environment
after_param p env = with_variable env (param_typing p env).0

-- several parameters
unfoldable pub check_params : List Param → Environment → Result (Unit {0}) Violation
check_params params env = and_then (first (sequence_verdict (map param_typing params) env)) (λ results. Ok tt)

-- what is known after them
unfoldable pub after_params : List Param → Environment → Environment
after_params params env = after_typings (map param_typing params) env

-- parameters and a body
unfoldable pub check_body : List Param → List Stmt → Environment → Result (Unit {0}) Violation
check_body params body env = and_then (first (body_verdict params body env)) (λ results. Ok tt)

-- ---- members

-- a field, after fields of these names
unfoldable pub check_field : List (List ℕ) → TypeName → Ident → Option Expr → Environment → Result (Unit {0}) Violation
check_field before sort name init env =
    and_then (first (type_verdict sort env)) (λ to. and_then (first (expr_verdict_if init env)) (λ value.
    and_then (fine (field_rules before name)) (λ u. fine (initial_rules init value to env))))

-- a constructor of a behaviour of this name, after so many constructors
unfoldable pub check_constructor : ℕ → Ident → List ℕ → List Param → List Stmt → Environment → Result (Unit {0}) Violation
check_constructor before name own params body env =
    and_then (check_body params body env) (λ u.
    and_then (fine (second_rules name.at (nat_lt 0 before))) (λ w. fine (constructor_name_rules name own)))

-- a handler, after handlers of these names
unfoldable pub check_handler : List (List ℕ) → Option TypeName → Ident → List Param → List Stmt → Environment → Result (Unit {0}) Violation
check_handler before result name params body env =
    and_then (first (result_verdict result env)) (λ sort. and_then (check_body params body env) (λ u.
    fine (declared_handler_rules before name sort body)))

-- a member of the behaviour of this name, after these members of it
unfoldable pub check_member : List Behavior → List ℕ → List Member → Member → Result (Unit {0}) Violation
check_member behaviors own before m = first (member_verdict behaviors own before m)

-- several
unfoldable pub check_members : List Behavior → List ℕ → List Member → List Member → Result (Unit {0}) Violation
check_members behaviors own before ms = first (members_verdict behaviors own before ms)

-- ---- programs

-- the rules of a behaviour, after these behaviours
abbrev pub behavior_rules : List Behavior → Behavior → List Violation
behavior_rules before b = behavior_name_rules b.name before ++ count_rules 64 (length before) b.name.at

-- a behaviour of this program, after these behaviours
unfoldable pub check_behavior : List Behavior → List Behavior → Behavior → Result (Unit {0}) Violation
check_behavior behaviors before b = first (behavior_verdict behaviors before b)

-- several
unfoldable pub check_behaviors : List Behavior → List Behavior → List Behavior → Result (Unit {0}) Violation
check_behaviors behaviors before bs = first (behaviors_verdict behaviors before bs)

-- a program
unfoldable pub check_program : Program → Result (Unit {0}) Violation
check_program p = first (program_verdict p)
