-- The first violation in a member, a behaviour and a program, from those of their parts.
use Rattle.std.proofs.Common.{◌≡◌, ℕ, ◌+◌, ◌<◌, ◌≤◌, Bool, true, false, not, ◌||◌, nat_lt, is_some, List, [], ◌∷◌, ◌++◌, append_assoc, append-nil, length, take, get_or, drop, drop-cons, add-one, suc, map, filter_map, Option, Some, None, Result, Ok, Err, sym, ap, ◌∙◌, refl}
use Rattle.std.proofs.Math.Seq.{take-suc}
use Rattle.std.proofs.lemmas.List.{drop_all}
use Rattle.std.specs.List.{list_any}
use Rattle.sal_ast.specs.declared.program.Ident.{Ident}
use Rattle.sal_ast.specs.declared.program.TypeName.{TypeName}
use Rattle.sal_ast.specs.declared.program.Param.{Param}
use Rattle.sal_ast.specs.declared.program.Member.{Member}
use Rattle.sal_ast.specs.declared.program.Member.TheVariants as m
use Rattle.sal_ast.specs.declared.program.Behavior.{Behavior}
use Rattle.sal_ast.specs.declared.program.Program.{Program}
use Rattle.sal_ast.specs.declared.expression.Expr.{Expr}
use Rattle.sal_ast.specs.declared.statement.Stmt.{Stmt}
use Rattle.sal_ast.specs.Members.{as_constructor}
use Rattle.sal_sorts.specs.declared.sort.Base.TheVariants.{Void}
use Rattle.sal_sorts.specs.declared.sort.Sort.{Sort}
use Rattle.sal_sorts.specs.declared.variable.MemberKind.TheVariants as kind
use Rattle.sal_sorts.specs.Sorts.{plain, sort_of_type, sort_of_result}
use Rattle.sal_sorts.specs.Environments.{Environment, member_environment, with_variable, new_variable}
use Rattle.sal_sorts.specs.Verdicts.{Violation, Verdict, Good, Bad, ◌also◌, node, map_verdict}
use Rattle.sal_sorts.specs.Expressions.{type_verdict, expr_verdict_if}
use Rattle.sal_sorts.specs.Refusals.{first, fine, and_then}
use Rattle.sal_sorts.proofs.Refusals.{node1, node2}
use Rattle.sal_types.specs.Statements.{StmtTyping, no_results, free_rules, initial_rules, sequence_verdict, stmt_typings}
use Rattle.sal_types.specs.Members.{count_rules, second_rules, is_among, param_typing, body_verdict, field_rules, field_verdict, constructor_name_rules, constructor_verdict, migrate_rules, end_rules, result_verdict, declared_handler_rules, handler_verdict, field_names, handler_names, member_verdict, members_verdict}
use Rattle.sal_types.specs.Programs.{behavior_name_rules, behavior_verdict, behaviors_verdict, start_rules, program_verdict}
use Rattle.sal_types.specs.code.Checks.{after_typings, check_stmts, check_param, after_param, check_params, after_params, check_body, check_field, check_constructor, check_handler, check_member, check_members, behavior_rules, check_behavior, check_behaviors, check_program}
use Rattle.sal_types.proofs.Algebra.{under, assoc, assoc2, ok_last, fine2, fine3}

-- ---- parameters and bodies

-- the first violation, without the results
abbrev only_fault : Verdict (List Sort) → Result (Unit {0}) Violation
only_fault v = and_then (first v) (λ results. Ok tt)

one_more : (v w : Verdict (List Sort)) → only_fault (map_verdict (λ p. p.0 ++ p.1) (v also w)) ≡ and_then (first v) (λ rs. only_fault w)
one_more (Good a) (Good b) = refl
one_more (Good a) (Bad w ws) = refl
one_more (Bad v vs) (Good b) = refl
one_more (Bad v vs) (Bad w ws) = refl

two_parts : (ms ns : List StmtTyping) (env : Environment) → only_fault (sequence_verdict (ms ++ ns) env) ≡ and_then (only_fault (sequence_verdict ms env)) (λ u. only_fault (sequence_verdict ns (after_typings ms env)))
two_parts [] ns env = refl
two_parts (m ∷ ms) ns env =
    let after : Environment = with_variable env (m env).0 in
    let rest : Unit {0} → Result (Unit {0}) Violation = λ u. only_fault (sequence_verdict ns (after_typings ms after)) in
    one_more (m env).1 (sequence_verdict (ms ++ ns) after)
    ∙ under (first (m env).1) (λ rs. only_fault (sequence_verdict (ms ++ ns) after)) (λ rs. and_then (only_fault (sequence_verdict ms after)) rest) (λ rs. two_parts ms ns after)
    ∙ assoc (first (m env).1) (λ rs. only_fault (sequence_verdict ms after)) rest
    ∙ ap (λ r. and_then r rest) (sym (one_more (m env).1 (sequence_verdict ms after)))

again : (done : List Sort) (v : Verdict (List Sort)) → only_fault v ≡ and_then (and_then (first v) (λ ss. Ok (done ++ ss))) (λ ss. Ok tt)
again done (Good a) = refl
again done (Bad v vs) = refl

pub check-body : (params : List Param) (body : List Stmt) (env : Environment) → check_body params body env ≡ and_then (check_params params env) (λ u. and_then (check_stmts [] body (after_params params env)) (λ ss. Ok tt))
unfolding check_body check_params check_stmts after_params
check-body params body env =
    two_parts (map param_typing params) (stmt_typings body) env
    ∙ under (only_fault (sequence_verdict (map param_typing params) env)) (λ u. only_fault (sequence_verdict (stmt_typings body) (after_typings (map param_typing params) env))) (λ u. and_then (and_then (first (sequence_verdict (stmt_typings body) (after_typings (map param_typing params) env))) (λ ss. Ok ([] ++ ss))) (λ ss. Ok tt))
    (λ u. again [] (sequence_verdict (stmt_typings body) (after_typings (map param_typing params) env)))

tests_of_param : (p : Param) (env : Environment) → only_fault (param_typing p env).1 ≡ check_param p env
unfolding check_param
tests_of_param p env =
    let rules : List Violation = count_rules 16 (length env.scope) p.name.at ++ free_rules p.name env in
    let tests : Result (Unit {0}) Violation = and_then (fine (count_rules 16 (length env.scope) p.name.at)) (λ u. fine (free_rules p.name env)) in
    given (type_verdict p.sort env) rules
    ∙ under (first (type_verdict p.sort env)) (λ s. fine rules) (λ s. tests) (λ s. fine2 (count_rules 16 (length env.scope) p.name.at) (free_rules p.name env))
  where
    given : (v : Verdict Sort) (rs : List Violation) → only_fault (node v (λ s. rs) no_results) ≡ and_then (first v) (λ s. fine rs)
    given (Good s) [] = refl
    given (Good s) (r ∷ rs) = refl
    given (Bad v vs) rs = refl

pub check-after-param : (p : Param) (env : Environment) → after_param p env ≡ with_variable env (new_variable p.name (sort_of_type p.sort) false)
unfolding after_param
check-after-param p env = refl

abbrev forget : Result (List Sort) Violation → Result (Unit {0}) Violation
forget r = and_then r (λ rs. Ok tt)

no_value : (r : Result (List Sort) Violation) (k : Result (Unit {0}) Violation) → and_then r (λ rs. k) ≡ and_then (forget r) (λ u. k)
no_value (Ok a) k = refl
no_value (Err v) k = refl

pub params_next : (o : Param) (ps : List Param) (env : Environment) → check_params (o ∷ ps) env ≡ and_then (check_param o env) (λ u. check_params ps (after_param o env))
unfolding check_params after_param
params_next o ps env =
    one_more (param_typing o env).1 (sequence_verdict (map param_typing ps) (after_param o env))
    ∙ no_value (first (param_typing o env).1) (check_params ps (after_param o env))
    ∙ ap (λ r. and_then r (λ u. check_params ps (after_param o env))) (tests_of_param o env)

pub params_at : (list : List Param) (i : ℕ) (o : Param) (env : Environment) → i < length list → o ≡ get_or list i o → check_params (drop i list) env ≡ and_then (check_param o env) (λ u. check_params (drop (i + 1) list) (after_param o env))
unfolding check_params after_param
params_at list i o env h e =
    ap (λ l. check_params l env) (drop-cons list i o h ∙ ap (λ x. x ∷ drop (suc i) list) (sym e))
    ∙ one_more (param_typing o env).1 (sequence_verdict (map param_typing (drop (suc i) list)) (after_param o env))
    ∙ no_value (first (param_typing o env).1) (check_params (drop (suc i) list) (after_param o env))
    ∙ ap (λ r. and_then r (λ u. check_params (drop (suc i) list) (after_param o env))) (tests_of_param o env)
    ∙ ap (λ n. and_then (check_param o env) (λ u. check_params (drop n list) (after_param o env))) (sym (add-one i))

pub params_none : (list : List Param) (i : ℕ) (env : Environment) → length list ≤ i → check_params (drop i list) env ≡ Ok tt
unfolding check_params
params_none list i env h = ap (λ l. check_params l env) (drop_all i list h)

pub after_params_at : (list : List Param) (i : ℕ) (o : Param) (env : Environment) → i < length list → o ≡ get_or list i o → after_params (drop i list) env ≡ after_params (drop (i + 1) list) (after_param o env)
unfolding after_params after_param
after_params_at list i o env h e =
    ap (λ l. after_params l env) (drop-cons list i o h ∙ ap (λ x. x ∷ drop (suc i) list) (sym e))
    ∙ ap (λ n. after_params (drop n list) (after_param o env)) (sym (add-one i))

pub after_params_none : (list : List Param) (i : ℕ) (env : Environment) → length list ≤ i → after_params (drop i list) env ≡ env
unfolding after_params
after_params_none list i env h = ap (λ l. after_params l env) (drop_all i list h)

-- ---- members

field_is : (before : List (List ℕ)) (sort : TypeName) (name : Ident) (init : Option Expr) (env : Environment) → first (field_verdict before sort name init env) ≡ check_field before sort name init env
unfolding check_field
field_is before sort name init env =
    let rules : Sort → Option Sort → List Violation = λ s v. field_rules before name ++ initial_rules init v s env in
    let tests : Sort → Option Sort → Result (Unit {0}) Violation = λ s v. and_then (fine (field_rules before name)) (λ u. fine (initial_rules init v s env)) in
    let initial : Result (Option Sort) Violation = first (expr_verdict_if init env) in
    node2 (type_verdict sort env) (expr_verdict_if init env) (λ p. rules p.0 p.1) (λ p. tt)
    ∙ under (first (type_verdict sort env)) (λ s. and_then initial (λ v. and_then (fine (rules s v)) (λ u. Ok tt))) (λ s. and_then initial (tests s))
    (λ s. under initial (λ v. and_then (fine (rules s v)) (λ u. Ok tt)) (tests s) (λ v. ok_last (fine (rules s v)) ∙ fine2 (field_rules before name) (initial_rules init v s env)))

constructor_is : (before : ℕ) (name : Ident) (params : List Param) (body : List Stmt) (env : Environment) → first (constructor_verdict before name params body env) ≡ check_constructor before name env.own params body env
unfolding check_constructor check_body
constructor_is before name params body env =
    let rules : List Violation = second_rules name.at (nat_lt 0 before) ++ constructor_name_rules name env.own in
    let tests : Result (Unit {0}) Violation = and_then (fine (second_rules name.at (nat_lt 0 before))) (λ w. fine (constructor_name_rules name env.own)) in
    node1 (body_verdict params body env) (λ p. rules) (λ p. tt)
    ∙ under (first (body_verdict params body env)) (λ r. and_then (fine rules) (λ u. Ok tt)) (λ r. tests) (λ r. ok_last (fine rules) ∙ fine2 (second_rules name.at (nat_lt 0 before)) (constructor_name_rules name env.own))
    ∙ no_value (first (body_verdict params body env)) tests

handler_is : (before : List (List ℕ)) (result : Option TypeName) (name : Ident) (params : List Param) (body : List Stmt) (env : Environment) → first (handler_verdict before result name params body env) ≡ check_handler before result name params body env
unfolding check_handler check_body
handler_is before result name params body env =
    let rules : Sort → List Violation = λ s. declared_handler_rules before name s body in
    let whole : Result (List Sort) Violation = first (body_verdict params body env) in
    node2 (result_verdict result env) (body_verdict params body env) (λ p. rules p.0) (λ p. tt)
    ∙ under (first (result_verdict result env)) (λ s. and_then whole (λ r. and_then (fine (rules s)) (λ u. Ok tt))) (λ s. and_then (and_then whole (λ r. Ok tt)) (λ u. fine (rules s)))
    (λ s. under whole (λ r. and_then (fine (rules s)) (λ u. Ok tt)) (λ r. fine (rules s)) (λ r. ok_last (fine (rules s))) ∙ no_value whole (fine (rules s)))

pub member-Field : (behaviors : List Behavior) (own : List ℕ) (before : List Member) (sort : TypeName) (name : Ident) (init : Option Expr) → check_member behaviors own before (m.Field sort name init) ≡ check_field (field_names before) sort name init (member_environment behaviors own kind.Initialiser (plain Void))
unfolding check_member
member-Field behaviors own before sort name init = field_is (field_names before) sort name init (member_environment behaviors own kind.Initialiser (plain Void))

pub member-Constructor : (behaviors : List Behavior) (own : List ℕ) (before : List Member) (name : Ident) (params : List Param) (body : List Stmt) → check_member behaviors own before (m.Constructor name params body) ≡ check_constructor (length (filter_map as_constructor before)) name own params body (member_environment behaviors own kind.Constructor (plain Void))
unfolding check_member
member-Constructor behaviors own before name params body = constructor_is (length (filter_map as_constructor before)) name params body (member_environment behaviors own kind.Constructor (plain Void))

pub member-Handler : (behaviors : List Behavior) (own : List ℕ) (before : List Member) (result : Option TypeName) (name : Ident) (params : List Param) (body : List Stmt) → check_member behaviors own before (m.Handler result name params body) ≡ check_handler (handler_names before) result name params body (member_environment behaviors own kind.Handler (sort_of_result result))
unfolding check_member
member-Handler behaviors own before result name params body = handler_is (handler_names before) result name params body (member_environment behaviors own kind.Handler (sort_of_result result))

-- a handler's own rules hold, with its result's type, where nothing is violated in it
pub handler_fine : (behaviors : List Behavior) (own : List ℕ) (before : List Member) (result : Option TypeName) (name : Ident) (params : List Param) (body : List Stmt) → check_member behaviors own before (m.Handler result name params body) ≡ Ok tt → (s : Sort) × (fine (declared_handler_rules (handler_names before) name s body) ≡ Ok tt)
unfolding check_handler
handler_fine behaviors own before result name params body h =
    ends (first (result_verdict result (member_environment behaviors own kind.Handler (sort_of_result result)))) (check_body params body (member_environment behaviors own kind.Handler (sort_of_result result)))
    (λ s. declared_handler_rules (handler_names before) name s body) (sym (member-Handler behaviors own before result name params body) ∙ h)
  where
    ends : (r : Result Sort Violation) (q : Result (Unit {0}) Violation) (rules : Sort → List Violation) → and_then r (λ s. and_then q (λ u. fine (rules s))) ≡ Ok tt → (s : Sort) × (fine (rules s) ≡ Ok tt)
    ends (Ok s) (Ok u) rules h = (s, h)
    ends (Ok s) (Err v) rules h = absurd cc
    ends (Err v) q rules h = absurd cc

one_more_unit : (v w : Verdict (Unit {0})) → first (map_verdict (λ p. tt) (v also w)) ≡ and_then (first v) (λ u. first w)
one_more_unit (Good a) (Good b) = refl
one_more_unit (Good a) (Bad w ws) = refl
one_more_unit (Bad v vs) (Good b) = refl
one_more_unit (Bad v vs) (Bad w ws) = refl

pub members_next : (behaviors : List Behavior) (own : List ℕ) (before : List Member) (o : Member) (ms : List Member) → check_members behaviors own before (o ∷ ms) ≡ and_then (check_member behaviors own before o) (λ u. check_members behaviors own (before ++ o ∷ []) ms)
unfolding check_members check_member
members_next behaviors own before o ms = one_more_unit (member_verdict behaviors own before o) (members_verdict behaviors own (before ++ o ∷ []) ms)

pub members_at : (behaviors : List Behavior) (own : List ℕ) (list : List Member) (i : ℕ) (o : Member) → i < length list → o ≡ get_or list i o → check_members behaviors own (take i list) (drop i list) ≡ and_then (check_member behaviors own (take i list) o) (λ u. check_members behaviors own (take (i + 1) list) (drop (i + 1) list))
unfolding check_members check_member
members_at behaviors own list i o h e =
    ap (λ l. check_members behaviors own (take i list) l) (drop-cons list i o h ∙ ap (λ x. x ∷ drop (suc i) list) (sym e))
    ∙ one_more_unit (member_verdict behaviors own (take i list) o) (members_verdict behaviors own (take i list ++ o ∷ []) (drop (suc i) list))
    ∙ ap (λ l. and_then (check_member behaviors own (take i list) o) (λ u. check_members behaviors own l (drop (suc i) list))) (ap (λ x. take i list ++ x ∷ []) e ∙ sym (take-suc list i o h))
    ∙ ap (λ n. and_then (check_member behaviors own (take i list) o) (λ u. check_members behaviors own (take n list) (drop n list))) (sym (add-one i))

pub members_none : (behaviors : List Behavior) (own : List ℕ) (before list : List Member) (i : ℕ) → length list ≤ i → check_members behaviors own before (drop i list) ≡ Ok tt
unfolding check_members
members_none behaviors own before list i h = ap (λ l. check_members behaviors own before l) (drop_all i list h)

-- ---- behaviours and programs

pub check-behavior : (behaviors before : List Behavior) (b : Behavior) → check_behavior behaviors before b ≡ and_then (check_members behaviors b.name.text [] b.members) (λ u. fine (behavior_rules before b))
unfolding check_behavior check_members
check-behavior behaviors before b =
    node1 (members_verdict behaviors b.name.text [] b.members) (λ u. behavior_rules before b) (λ u. tt)
    ∙ under (first (members_verdict behaviors b.name.text [] b.members)) (λ a. and_then (fine (behavior_rules before b)) (λ u. Ok tt)) (λ a. fine (behavior_rules before b)) (λ a. ok_last (fine (behavior_rules before b)))

pub behaviors_next : (behaviors before : List Behavior) (o : Behavior) (bs : List Behavior) → check_behaviors behaviors before (o ∷ bs) ≡ and_then (check_behavior behaviors before o) (λ u. check_behaviors behaviors (before ++ o ∷ []) bs)
unfolding check_behaviors check_behavior
behaviors_next behaviors before o bs = one_more_unit (behavior_verdict behaviors before o) (behaviors_verdict behaviors (before ++ o ∷ []) bs)

pub behaviors_at : (behaviors list : List Behavior) (i : ℕ) (o : Behavior) → i < length list → o ≡ get_or list i o → check_behaviors behaviors (take i list) (drop i list) ≡ and_then (check_behavior behaviors (take i list) o) (λ u. check_behaviors behaviors (take (i + 1) list) (drop (i + 1) list))
unfolding check_behaviors check_behavior
behaviors_at behaviors list i o h e =
    ap (λ l. check_behaviors behaviors (take i list) l) (drop-cons list i o h ∙ ap (λ x. x ∷ drop (suc i) list) (sym e))
    ∙ one_more_unit (behavior_verdict behaviors (take i list) o) (behaviors_verdict behaviors (take i list ++ o ∷ []) (drop (suc i) list))
    ∙ ap (λ l. and_then (check_behavior behaviors (take i list) o) (λ u. check_behaviors behaviors l (drop (suc i) list))) (ap (λ x. take i list ++ x ∷ []) e ∙ sym (take-suc list i o h))
    ∙ ap (λ n. and_then (check_behavior behaviors (take i list) o) (λ u. check_behaviors behaviors (take n list) (drop n list))) (sym (add-one i))

pub behaviors_none : (behaviors before list : List Behavior) (i : ℕ) → length list ≤ i → check_behaviors behaviors before (drop i list) ≡ Ok tt
unfolding check_behaviors
behaviors_none behaviors before list i h = ap (λ l. check_behaviors behaviors before l) (drop_all i list h)

pub check-program : (p : Program) → check_program p ≡ and_then (check_behaviors p.behaviors [] p.behaviors) (λ u. fine (start_rules p.behaviors))
unfolding check_program check_behaviors
check-program p =
    node1 (behaviors_verdict p.behaviors [] p.behaviors) (λ u. start_rules p.behaviors) (λ u. tt)
    ∙ under (first (behaviors_verdict p.behaviors [] p.behaviors)) (λ a. and_then (fine (start_rules p.behaviors)) (λ u. Ok tt)) (λ a. fine (start_rules p.behaviors)) (λ a. ok_last (fine (start_rules p.behaviors)))

pub ruleset equations = (check-body, check-after-param, params_none, after_params_none, member-Field, member-Constructor, member-Handler, members_none, check-behavior, behaviors_none, check-program)
