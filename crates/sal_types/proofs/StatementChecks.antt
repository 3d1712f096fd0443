-- The first violation in a statement, by one equation for each form.
use Rattle.std.proofs.Common.{◌≡◌, ℕ, ◌+◌, ◌<◌, ◌≤◌, Bool, true, false, not, ◌||◌, List, [], ◌∷◌, ◌++◌, append_assoc, append-nil, length, take, get_or, drop, drop-cons, add-one, suc, map, Option, Some, None, option_map, Result, Ok, Err, sym, ap, ◌∙◌, refl}
use Rattle.std.proofs.lemmas.List.{drop_all}
use Rattle.sal_ast.specs.declared.program.Ident.{Ident}
use Rattle.sal_ast.specs.declared.expression.Expr.{Expr}
use Rattle.sal_ast.specs.declared.statement.Declare.{Declare}
use Rattle.sal_ast.specs.declared.statement.Assign.{Assign}
use Rattle.sal_ast.specs.declared.statement.ForInit.{ForInit}
use Rattle.sal_ast.specs.declared.statement.ForInit.TheVariants as init
use Rattle.sal_ast.specs.declared.statement.Send.{Send}
use Rattle.sal_ast.specs.declared.statement.Stage.{Stage}
use Rattle.sal_ast.specs.declared.statement.Stmt.{Stmt}
use Rattle.sal_ast.specs.declared.statement.Chain.{Chain}
use Rattle.sal_ast.specs.declared.statement.Stmt.TheVariants as t
use Rattle.sal_ast.specs.declared.statement.Stage.TheVariants as g
use Rattle.sal_sorts.specs.declared.sort.Sort.{Sort}
use Rattle.sal_sorts.specs.declared.variable.Variable.{Variable}
use Rattle.sal_sorts.specs.Sorts.{sort_of_type}
use Rattle.sal_sorts.specs.Environments.{Environment, with_variable, new_variable, with_oldest, is_constructor, is_free}
use Rattle.sal_sorts.specs.Starts.{message_start}
use Rattle.sal_sorts.specs.Verdicts.{Violation, Verdict, Good, Bad, ◌also◌, node, map_verdict, bind_verdict}
use Rattle.sal_sorts.specs.Expressions.{type_verdict, permission_rules, verdict_of_exprs, expr_verdict, expr_verdicts, expr_verdict_if}
use Rattle.sal_sorts.specs.Messages.{or_void, message_verdict}
use Rattle.sal_sorts.specs.Refusals.{first, fine, and_then}
use Rattle.sal_sorts.proofs.Refusals.{node1, node2, node3, first_bind_verdict}
use Rattle.sal_types.specs.Statements.{StmtTyping, no_results, statement_rules, free_rules, initial_rules, condition_rules, loop_rules, leave_rules, declare_verdict, target_verdict, store_rules, assign_verdict, assignment_rules, sequence_verdict, else_verdict, for_init_typing, for_next_verdict, for_turn_verdict, return_rules, join_rules, join_sort, join_environment, join_typing, stages_verdict, chain_start, sort_or_void, continuation_rules, stmt_typing, stage_typing, chain_typing, stmt_typings}
use Rattle.sal_types.specs.code.Checks.{check_stmt, after_stmt, after_typings, check_stmts, after_stmts, check_else, check_stage, check_stages, stage_start, start_of_chain, check_declare, check_assign, check_for_init, after_for_init, check_for_next, check_for_turn, check_return, check_token}
use Rattle.sal_types.proofs.Algebra.{under, assoc, assoc2, assoc3, ok_last, fine2, fine3, appended}
use Rattle.sal_types.proofs.StatementEquations.{typing-Empty, typing-Block, typing-Declare, typing-Assign, typing-While, typing-For, typing-Return, typing-If, typing-Stages, typing-Token, typing-Chain, typing-Message, typing-Join}

-- ---- declarations and assignments

abbrev no_sorts : Result (List Sort) Violation
no_sorts = Ok []

nothing_after : (r : Result (Unit {0}) Violation) (s : Result (Unit {0}) Violation) → r ≡ s → and_then r (λ u. no_sorts) ≡ and_then s (λ u. no_sorts)
nothing_after r s e = ap (λ x. and_then x (λ u. no_sorts)) e

declare_is : (allowed : Bool) (d : Declare) (env : Environment) → first (declare_verdict (permission_rules allowed d.sort.at) d env) ≡ and_then (check_declare allowed d env) (λ u. Ok [])
unfolding check_declare
declare_is allowed d env =
    let rules : Sort → Option Sort → List Violation = λ s v. permission_rules allowed d.sort.at ++ free_rules d.name env ++ initial_rules d.init v s env in
    let tests : Sort → Option Sort → Result (Unit {0}) Violation = λ s v. and_then (fine (permission_rules allowed d.sort.at)) (λ u. and_then (fine (free_rules d.name env)) (λ w. fine (initial_rules d.init v s env))) in
    node2 (type_verdict d.sort env) (expr_verdict_if d.init env) (λ p. rules p.0 p.1) no_results
    ∙ under (first (type_verdict d.sort env)) (λ s. and_then (first (expr_verdict_if d.init env)) (λ v. and_then (fine (rules s v)) (λ u. Ok []))) (λ s. and_then (first (expr_verdict_if d.init env)) (λ v. and_then (tests s v) (λ u. Ok [])))
    (λ s. under (first (expr_verdict_if d.init env)) (λ v. and_then (fine (rules s v)) (λ u. Ok [])) (λ v. and_then (tests s v) (λ u. Ok []))
    (λ v. nothing_after (fine (rules s v)) (tests s v) (fine3 (permission_rules allowed d.sort.at) (free_rules d.name env) (initial_rules d.init v s env))))
    ∙ assoc2 (first (type_verdict d.sort env)) (λ s. first (expr_verdict_if d.init env)) (λ s v. tests s v) (λ u. Ok [])

assign_is : (allowed : Bool) (a : Assign) (env : Environment) → first (assign_verdict (permission_rules allowed a.name.at) a env) ≡ and_then (check_assign allowed a env) (λ u. Ok [])
unfolding check_assign
assign_is allowed a env =
    let to : Result Sort Violation = first (target_verdict a env) in
    let indexes : Result (List Sort) Violation = first (verdict_of_exprs (expr_verdicts a.indexes) env) in
    let value : Result Sort Violation = first (expr_verdict a.value env false) in
    let rules : Sort → List Sort → Sort → List Violation = λ s ss v. permission_rules allowed a.name.at ++ store_rules a s ss v env in
    let tests : Sort → List Sort → Sort → Result (Unit {0}) Violation = λ s ss v. and_then (fine (permission_rules allowed a.name.at)) (λ u. fine (store_rules a s ss v env)) in
    node3 (target_verdict a env) (verdict_of_exprs (expr_verdicts a.indexes) env) (expr_verdict a.value env false) (λ p. rules p.0.0 p.0.1 p.1) no_results
    ∙ under to (λ s. and_then indexes (λ ss. and_then value (λ v. and_then (fine (rules s ss v)) (λ u. Ok [])))) (λ s. and_then indexes (λ ss. and_then value (λ v. and_then (tests s ss v) (λ u. Ok []))))
    (λ s. under indexes (λ ss. and_then value (λ v. and_then (fine (rules s ss v)) (λ u. Ok []))) (λ ss. and_then value (λ v. and_then (tests s ss v) (λ u. Ok [])))
    (λ ss. under value (λ v. and_then (fine (rules s ss v)) (λ u. Ok [])) (λ v. and_then (tests s ss v) (λ u. Ok []))
    (λ v. nothing_after (fine (rules s ss v)) (tests s ss v) (fine2 (permission_rules allowed a.name.at) (store_rules a s ss v env)))))
    ∙ assoc3 to (λ s. indexes) (λ s ss. value) (λ s ss v. tests s ss v) (λ u. Ok [])

-- ---- statements

pub check-Empty : (at : ℕ) (env : Environment) → check_stmt (t.Empty at) env ≡ Ok []
unfolding check_stmt
check-Empty at env = ap (λ m. first (m env).1) (typing-Empty at)

pub check-Block : (at : ℕ) (list : List Stmt) (env : Environment) → check_stmt (t.Block at list) env ≡ and_then (check_stmts [] list env) (λ ss. and_then (fine (statement_rules env at)) (λ u. Ok ss))
unfolding check_stmt check_stmts
check-Block at list env =
    ap (λ m. first (m env).1) (typing-Block at list)
    ∙ node1 (sequence_verdict (stmt_typings list) env) (λ ss. statement_rules env at) (λ ss. ss)
    ∙ ap (λ r. and_then r (λ ss. and_then (fine (statement_rules env at)) (λ u. Ok ss))) (sym (ok_last (first (sequence_verdict (stmt_typings list) env))))

pub check-Declare : (d : Declare) (env : Environment) → check_stmt (t.Declare d) env ≡ and_then (check_declare (not (is_constructor env.member)) d env) (λ u. Ok [])
unfolding check_stmt
check-Declare d env = ap (λ m. first (m env).1) (typing-Declare d) ∙ declare_is (not (is_constructor env.member)) d env

pub check-Assign : (a : Assign) (env : Environment) → check_stmt (t.Assign a) env ≡ and_then (check_assign (not (is_constructor env.member) || (a.own || is_free a.name.text env)) a env) (λ u. Ok [])
unfolding check_stmt
check-Assign a env = ap (λ m. first (m env).1) (typing-Assign a) ∙ assign_is (not (is_constructor env.member) || (a.own || is_free a.name.text env)) a env

pub check-While : (at : ℕ) (test : Expr) (body : Stmt) (env : Environment) → check_stmt (t.While at test body) env ≡ and_then (first (expr_verdict test env false)) (λ s. and_then (check_stmt body env) (λ r. and_then (fine (statement_rules env at ++ condition_rules test s)) (λ u. Ok r)))
unfolding check_stmt
check-While at test body env =
    ap (λ m. first (m env).1) (typing-While at test body)
    ∙ node2 (expr_verdict test env false) (stmt_typing body env).1 (λ p. statement_rules env at ++ condition_rules test p.0) (λ p. p.1)

pub check-If : (at : ℕ) (test : Expr) (a : Stmt) (b : Option Stmt) (env : Environment) → check_stmt (t.If at test a b) env ≡ and_then (first (expr_verdict test env false)) (λ s. and_then (check_stmt a env) (λ r. and_then (check_else r b env) (λ rs. and_then (fine (statement_rules env at ++ condition_rules test s)) (λ u. Ok rs))))
unfolding check_stmt check_else
check-If at test a b env =
    let first_part : Result (List Sort) Violation = first (stmt_typing a env).1 in
    let second_part : Result (List Sort) Violation = first (else_verdict (option_map stmt_typing b) env) in
    let last : Sort → List Sort → Result (List Sort) Violation = λ s rs. and_then (fine (statement_rules env at ++ condition_rules test s)) (λ u. Ok rs) in
    ap (λ m. first (m env).1) (typing-If at test a b)
    ∙ node3 (expr_verdict test env false) (stmt_typing a env).1 (else_verdict (option_map stmt_typing b) env) (λ p. statement_rules env at ++ condition_rules test p.0.0) (λ p. p.0.1 ++ p.1)
    ∙ under (first (expr_verdict test env false)) (λ s. and_then first_part (λ r. and_then second_part (λ q. last s (r ++ q)))) (λ s. and_then first_part (λ r. and_then (and_then second_part (λ q. Ok (r ++ q))) (last s)))
    (λ s. under first_part (λ r. and_then second_part (λ q. last s (r ++ q))) (λ r. and_then (and_then second_part (λ q. Ok (r ++ q))) (last s))
    (λ r. assoc second_part (λ q. Ok (r ++ q)) (last s)))

pub check-For : (at : ℕ) (init : ForInit) (test : Option Expr) (next : Option Assign) (body : Stmt) (env : Environment) → check_stmt (t.For at init test next body) env ≡ and_then (check_for_init init env) (λ w. and_then (check_for_turn test next body (after_for_init init env)) (λ p. and_then (fine (statement_rules env at ++ loop_rules test p.0)) (λ u. Ok p.1)))
unfolding check_stmt check_for_init check_for_turn after_for_init
check-For at init test next body env =
    ap (λ m. first (m env).1) (typing-For at init test next body)
    ∙ node2 (for_init_typing init env).1 (for_turn_verdict test next (stmt_typing body) (with_variable env (for_init_typing init env).0)) (λ p. statement_rules env at ++ loop_rules test p.1.0) (λ p. p.1.1)
    ∙ assoc (first (for_init_typing init env).1) (λ rs. Ok tt) (λ (w : Unit {0}). and_then (first (for_turn_verdict test next (stmt_typing body) (with_variable env (for_init_typing init env).0))) (λ p. and_then (fine (statement_rules env at ++ loop_rules test p.0)) (λ u. Ok p.1)))

pub check-Return : (at : ℕ) (value : Option Expr) (env : Environment) → check_stmt (t.Return at value) env ≡ and_then (check_return at value env) (λ u. Ok [])
unfolding check_stmt check_return
check-Return at value env =
    let rules : Option Sort → List Violation = λ s. statement_rules env at ++ return_rules at s env ++ leave_rules at (not env.in_join) in
    let tests : Option Sort → Result (Unit {0}) Violation = λ s. and_then (fine (statement_rules env at)) (λ u. and_then (fine (return_rules at s env)) (λ w. fine (leave_rules at (not env.in_join)))) in
    ap (λ m. first (m env).1) (typing-Return at value)
    ∙ node1 (expr_verdict_if value env) rules no_results
    ∙ under (first (expr_verdict_if value env)) (λ s. and_then (fine (rules s)) (λ u. Ok [])) (λ s. and_then (tests s) (λ u. Ok []))
    (λ s. nothing_after (fine (rules s)) (tests s) (fine3 (statement_rules env at) (return_rules at s env) (leave_rules at (not env.in_join))))
    ∙ assoc (first (expr_verdict_if value env)) tests (λ u. Ok [])

chain_is : (c : Chain) → chain_typing c ≡ map stage_typing c.stages
chain_is c = typing-Stages c

pub check-Token : (at : ℕ) (n : Ident) (c : Chain) (env : Environment) → check_stmt (t.Token at n c) env ≡ and_then (check_stages None c.stages env) (λ s. and_then (check_token at n env) (λ u. Ok []))
unfolding check_stmt check_stages check_token
check-Token at n c env =
    let rules : List Violation = statement_rules env at ++ free_rules n env ++ leave_rules at (not env.in_join) in
    let tests : Result (Unit {0}) Violation = and_then (fine (statement_rules env at)) (λ u. and_then (fine (free_rules n env)) (λ w. fine (leave_rules at (not env.in_join)))) in
    ap (λ m. first (m env).1) (typing-Token at n c)
    ∙ node1 (stages_verdict None (chain_typing c) env) (λ s. rules) no_results
    ∙ under (first (stages_verdict None (chain_typing c) env)) (λ s. and_then (fine rules) (λ u. Ok [])) (λ s. and_then tests (λ u. Ok []))
    (λ s. nothing_after (fine rules) tests (fine3 (statement_rules env at) (free_rules n env) (leave_rules at (not env.in_join))))
    ∙ ap (λ l. and_then (first (stages_verdict None l env)) (λ s. and_then tests (λ u. Ok []))) (chain_is c)

pub check-Chain : (c : Chain) (passed : Option ℕ) (env : Environment) → check_stmt (t.Chain c passed) env ≡ and_then (check_stages None c.stages env) (λ s. and_then (fine (statement_rules env (start_of_chain c) ++ continuation_rules passed s env)) (λ u. Ok (s ∷ [])))
unfolding check_stmt check_stages start_of_chain
check-Chain c passed env =
    ap (λ m. first (m env).1) (typing-Chain c passed)
    ∙ node1 (stages_verdict None (chain_typing c) env) (λ s. statement_rules env (chain_start (chain_typing c)) ++ continuation_rules passed s env) (λ s. s ∷ [])
    ∙ ap (λ l. and_then (first (stages_verdict None l env)) (λ s. and_then (fine (statement_rules env (chain_start l) ++ continuation_rules passed s env)) (λ u. Ok (s ∷ [])))) (chain_is c)

-- ---- what is known after a statement

pub after-Empty : (at : ℕ) (env : Environment) → after_stmt (t.Empty at) env ≡ env
unfolding after_stmt
after-Empty at env = ap (λ m. with_variable env (m env).0) (typing-Empty at)

pub after-Block : (at : ℕ) (list : List Stmt) (env : Environment) → after_stmt (t.Block at list) env ≡ env
unfolding after_stmt
after-Block at list env = ap (λ m. with_variable env (m env).0) (typing-Block at list)

pub after-Declare : (d : Declare) (env : Environment) → after_stmt (t.Declare d) env ≡ with_variable env (new_variable d.name (sort_of_type d.sort) false)
unfolding after_stmt
after-Declare d env = ap (λ m. with_variable env (m env).0) (typing-Declare d)

pub after-Assign : (a : Assign) (env : Environment) → after_stmt (t.Assign a) env ≡ env
unfolding after_stmt
after-Assign a env = ap (λ m. with_variable env (m env).0) (typing-Assign a)

pub after-While : (at : ℕ) (test : Expr) (body : Stmt) (env : Environment) → after_stmt (t.While at test body) env ≡ env
unfolding after_stmt
after-While at test body env = ap (λ m. with_variable env (m env).0) (typing-While at test body)

pub after-If : (at : ℕ) (test : Expr) (a : Stmt) (b : Option Stmt) (env : Environment) → after_stmt (t.If at test a b) env ≡ env
unfolding after_stmt
after-If at test a b env = ap (λ m. with_variable env (m env).0) (typing-If at test a b)

pub after-For : (at : ℕ) (init : ForInit) (test : Option Expr) (next : Option Assign) (body : Stmt) (env : Environment) → after_stmt (t.For at init test next body) env ≡ env
unfolding after_stmt
after-For at init test next body env = ap (λ m. with_variable env (m env).0) (typing-For at init test next body)

pub after-Return : (at : ℕ) (value : Option Expr) (env : Environment) → after_stmt (t.Return at value) env ≡ env
unfolding after_stmt
after-Return at value env = ap (λ m. with_variable env (m env).0) (typing-Return at value)

pub after-Chain : (c : Chain) (passed : Option ℕ) (env : Environment) → after_stmt (t.Chain c passed) env ≡ env
unfolding after_stmt
after-Chain c passed env = ap (λ m. with_variable env (m env).0) (typing-Chain c passed)

good_first : (v : Verdict Sort) (s : Sort) → first v ≡ Ok s → sort_or_void v ≡ s
good_first (Good a) s h = cc
good_first (Bad v vs) s h = absurd cc

pub after-Token : (at : ℕ) (n : Ident) (c : Chain) (env : Environment) (s : Sort) → check_stages None c.stages env ≡ Ok s → after_stmt (t.Token at n c) env ≡ with_variable env (new_variable n s true)
unfolding after_stmt check_stages
after-Token at n c env s h =
    ap (λ m. with_variable env (m env).0) (typing-Token at n c)
    ∙ ap (λ l. with_variable env (new_variable n (sort_or_void (stages_verdict None l env)) true)) (chain_is c)
    ∙ ap (λ x. with_variable env (new_variable n x true)) (good_first (stages_verdict None (map stage_typing c.stages) env) s h)

-- ---- `else` and `for`

pub check-else-None : (done : List Sort) (env : Environment) → check_else done None env ≡ Ok done
unfolding check_else
check-else-None done env = ap (λ l. Ok l) (append-nil done)

pub check-else-Some : (done : List Sort) (s : Stmt) (env : Environment) → check_else done (Some s) env ≡ and_then (check_stmt s env) (λ more. Ok (done ++ more))
unfolding check_else check_stmt
check-else-Some done s env = refl

drops : (r : Result (Unit {0}) Violation) → and_then (and_then r (λ u. no_sorts)) (λ rs. Ok tt) ≡ r
drops (Ok u) = refl
drops (Err v) = refl

pub check-init-Nothing : (env : Environment) → check_for_init init.Nothing env ≡ Ok tt
unfolding check_for_init
check-init-Nothing env = refl

pub check-init-Declare : (d : Declare) (env : Environment) → check_for_init (init.Declare d) env ≡ check_declare true d env
unfolding check_for_init
check-init-Declare d env = ap (λ r. and_then r (λ rs. Ok tt)) (declare_is true d env) ∙ drops (check_declare true d env)

pub check-init-Assign : (a : Assign) (env : Environment) → check_for_init (init.Assign a) env ≡ check_assign true a env
unfolding check_for_init
check-init-Assign a env = ap (λ r. and_then r (λ rs. Ok tt)) (assign_is true a env) ∙ drops (check_assign true a env)

pub after-init-Nothing : (env : Environment) → after_for_init init.Nothing env ≡ env
unfolding after_for_init
after-init-Nothing env = refl

pub after-init-Declare : (d : Declare) (env : Environment) → after_for_init (init.Declare d) env ≡ with_variable env (new_variable d.name (sort_of_type d.sort) false)
unfolding after_for_init
after-init-Declare d env = refl

pub after-init-Assign : (a : Assign) (env : Environment) → after_for_init (init.Assign a) env ≡ env
unfolding after_for_init
after-init-Assign a env = refl

pub check-next-None : (env : Environment) → check_for_next None env ≡ Ok tt
unfolding check_for_next
check-next-None env = refl

pub check-next-Some : (a : Assign) (env : Environment) → check_for_next (Some a) env ≡ check_assign true a env
unfolding check_for_next
check-next-Some a env = ap (λ r. and_then r (λ rs. Ok tt)) (assign_is true a env) ∙ drops (check_assign true a env)

pub check-turn : (test : Option Expr) (next : Option Assign) (body : Stmt) (env : Environment) → check_for_turn test next body env ≡ and_then (first (expr_verdict_if test env)) (λ s. and_then (check_for_next next env) (λ u. and_then (check_stmt body env) (λ r. Ok (s, r))))
unfolding check_for_turn check_for_next check_stmt
check-turn test next body env =
    node3 (expr_verdict_if test env) (for_next_verdict next env) (stmt_typing body env).1 (λ p. []) (λ p. (p.0.0, p.1))
    ∙ under (first (expr_verdict_if test env)) (λ s. and_then (first (for_next_verdict next env)) (λ rs. and_then (first (stmt_typing body env).1) (λ r. Ok (s, r)))) (λ s. and_then (and_then (first (for_next_verdict next env)) (λ rs. Ok tt)) (λ u. and_then (first (stmt_typing body env).1) (λ r. Ok (s, r))))
    (λ s. assoc (first (for_next_verdict next env)) (λ rs. Ok tt) (λ (u : Unit {0}). and_then (first (stmt_typing body env).1) (λ r. Ok (s, r))))

-- ---- stages

pub check-Message : (m : Send) (env : Environment) (before : Option Sort) → check_stage (g.Message m) env before ≡ first (message_verdict m env before)
unfolding check_stage
check-Message m env before = ap (λ s. first (s.1 env before)) (typing-Message m)

pub check-Join : (at : ℕ) (body : List Stmt) (env : Environment) (before : Option Sort) → check_stage (g.Join at body) env before ≡ and_then (check_stmts [] body (join_environment env)) (λ ss. and_then (fine (join_rules at ss)) (λ u. Ok (join_sort ss)))
unfolding check_stage check_stmts
check-Join at body env before =
    ap (λ s. first (s.1 env before)) (typing-Join at body)
    ∙ node1 (sequence_verdict (stmt_typings body) (join_environment env)) (join_rules at) join_sort
    ∙ ap (λ r. and_then r (λ ss. and_then (fine (join_rules at ss)) (λ u. Ok (join_sort ss)))) (sym (ok_last (first (sequence_verdict (stmt_typings body) (join_environment env)))))

pub start-Message : (m : Send) → stage_start (g.Message m) ≡ message_start m
unfolding stage_start
start-Message m = ap (λ s. s.0) (typing-Message m)

pub start-Join : (at : ℕ) (body : List Stmt) → stage_start (g.Join at body) ≡ at
unfolding stage_start
start-Join at body = ap (λ s. s.0) (typing-Join at body)

pub stages_at : (before : Option Sort) (list : List Stage) (i : ℕ) (o : Stage) (env : Environment) → i < length list → o ≡ get_or list i o → check_stages before (drop i list) env ≡ and_then (check_stage o env before) (λ s. check_stages (Some s) (drop (i + 1) list) env)
unfolding check_stages check_stage
stages_at before list i o env h e =
    ap (λ l. check_stages before l env) (drop-cons list i o h ∙ ap (λ x. x ∷ drop (suc i) list) (sym e))
    ∙ first_bind_verdict ((stage_typing o).1 env before) (λ s. stages_verdict (Some s) (map stage_typing (drop (suc i) list)) env)
    ∙ ap (λ n. and_then (check_stage o env before) (λ s. check_stages (Some s) (drop n list) env)) (sym (add-one i))

pub stages_none : (before : Option Sort) (list : List Stage) (i : ℕ) (env : Environment) → length list ≤ i → check_stages before (drop i list) env ≡ Ok (or_void before)
unfolding check_stages
stages_none before list i env h = ap (λ l. check_stages before l env) (drop_all i list h)

-- ---- one statement after another

pub stmts_at : (done : List Sort) (list : List Stmt) (i : ℕ) (o : Stmt) (env : Environment) → i < length list → o ≡ get_or list i o → check_stmts done (drop i list) env ≡ and_then (check_stmt o env) (λ r. check_stmts (done ++ r) (drop (i + 1) list) (after_stmt o env))
unfolding check_stmts check_stmt after_stmt
stmts_at done list i o env h e =
    ap (λ l. check_stmts done l env) (drop-cons list i o h ∙ ap (λ x. x ∷ drop (suc i) list) (sym e))
    ∙ appended done (stmt_typing o env).1 (sequence_verdict (stmt_typings (drop (suc i) list)) (after_stmt o env))
    ∙ ap (λ n. and_then (check_stmt o env) (λ r. check_stmts (done ++ r) (drop n list) (after_stmt o env))) (sym (add-one i))

pub stmts_none : (done : List Sort) (list : List Stmt) (i : ℕ) (env : Environment) → length list ≤ i → check_stmts done (drop i list) env ≡ Ok done
unfolding check_stmts
stmts_none done list i env h = ap (λ l. check_stmts done l env) (drop_all i list h) ∙ ap (λ l. Ok l) (append-nil done)

pub after_at : (list : List Stmt) (i : ℕ) (o : Stmt) (env : Environment) → i < length list → o ≡ get_or list i o → after_stmts (drop i list) env ≡ after_stmts (drop (i + 1) list) (after_stmt o env)
unfolding after_stmts after_stmt
after_at list i o env h e =
    ap (λ l. after_stmts l env) (drop-cons list i o h ∙ ap (λ x. x ∷ drop (suc i) list) (sym e))
    ∙ ap (λ n. after_stmts (drop n list) (after_stmt o env)) (sym (add-one i))

pub after_none : (list : List Stmt) (i : ℕ) (env : Environment) → length list ≤ i → after_stmts (drop i list) env ≡ env
unfolding after_stmts
after_none list i env h = ap (λ l. after_stmts l env) (drop_all i list h)

-- what is in scope only grows, and is as before where its end is cut off
grown : (env : Environment) (o : Option Variable) → (more : List Variable) × (with_variable env o ≡ record env { scope = env.scope ++ more })
grown env None = ([], ap {A = List Variable} (λ l. record env { scope = l }) (sym (append-nil env.scope)))
grown env (Some v) = (v ∷ [], refl)

typings_grow : (ms : List StmtTyping) (env : Environment) → (more : List Variable) × (after_typings ms env ≡ record env { scope = env.scope ++ more })
typings_grow [] env = grown env None
typings_grow (m ∷ ms) env =
    let a = grown env (m env).0 in
    let b = typings_grow ms (with_variable env (m env).0) in (
      a.0 ++ b.0,
      b.1 ∙ ap (λ (x : Environment). record x { scope = x.scope ++ b.0 }) a.1 ∙ ap {A = List Variable} (λ l. record env { scope = l }) (append_assoc env.scope a.0 b.0),
    )

cut : (xs ys : List Variable) → take (length xs) (xs ++ ys) ≡ xs
cut [] ys = refl
cut (x ∷ xs) ys = ap (λ l. x ∷ l) (cut xs ys)

oldest_of_more : (env : Environment) (o : Option Variable) → with_oldest (length env.scope) (with_variable env o) ≡ env
oldest_of_more env o = let a = grown env o in ap (λ (x : Environment). with_oldest (length env.scope) x) a.1 ∙ ap {A = List Variable} (λ l. record env { scope = l }) (cut env.scope a.0)

pub oldest_after : (s : Stmt) (env : Environment) → with_oldest (length env.scope) (after_stmt s env) ≡ env
unfolding after_stmt
oldest_after s env = oldest_of_more env (stmt_typing s env).0

pub oldest_after_init : (init : ForInit) (env : Environment) → with_oldest (length env.scope) (after_for_init init env) ≡ env
unfolding after_for_init
oldest_after_init init env = oldest_of_more env (for_init_typing init env).0

pub oldest_after_all : (list : List Stmt) (env : Environment) → with_oldest (length env.scope) (after_stmts list env) ≡ env
unfolding after_stmts
oldest_after_all list env = let a = typings_grow (stmt_typings list) env in ap (λ (x : Environment). with_oldest (length env.scope) x) a.1 ∙ ap {A = List Variable} (λ l. record env { scope = l }) (cut env.scope a.0)

pub ruleset equations = (check-Empty, check-Block, check-Declare, check-Assign, check-While, check-If, check-For, check-Return, check-Token, check-Chain, after-Empty, after-Block, after-Declare, after-Assign, after-While, after-If, after-For, after-Return, after-Chain, after-Token, check-else-None, check-else-Some, check-init-Nothing, check-init-Declare, check-init-Assign, after-init-Nothing, after-init-Declare, after-init-Assign, check-next-None, check-next-Some, check-turn, check-Message, check-Join, start-Message, start-Join, stages_none, stmts_none, after_none, oldest_after, oldest_after_init, oldest_after_all)
