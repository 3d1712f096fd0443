-- The parts of a typed statement and of a typed stage.
use Rattle.std.proofs.Common.{◌≡◌, ℕ, suc, ◌<◌, ◌≤◌, true, false, not, ◌&&◌, nat_le, nat_lt, List, [], ◌∷◌, ◌++◌, length, map, Option, Some, None, option_map, refl, sym, ap, subst, ◌∙◌, rules}
use Rattle.std.specs.List.{list_all}
use Rattle.std.proofs.lemmas.Bool.{and_parts, not-true, leb-true, ltb-true}
use Rattle.sal_ast.specs.declared.program.TypeName.{TypeName}
use Rattle.sal_ast.specs.declared.expression.Expr.{Expr}
use Rattle.sal_ast.specs.declared.statement.Declare.{Declare}
use Rattle.sal_ast.specs.declared.statement.Assign.{Assign}
use Rattle.sal_ast.specs.declared.statement.ForInit.{ForInit}
use Rattle.sal_ast.specs.declared.statement.ForInit.TheVariants as init
use Rattle.sal_ast.specs.declared.statement.Stage.{Stage, out-Stage, the_lemmas}
use Rattle.sal_ast.specs.declared.statement.Stmt.{Stmt, out-Stmt}
use Rattle.sal_ast.specs.declared.statement.Chain.{Chain}
use Rattle.sal_ast.specs.declared.statement.Stage.TheViews.{roll-Stage, roll-Stmt}
use Rattle.sal_ast.specs.declared.statement.Stage.TheOpen.{Stage-F, Stmt-F}
use Rattle.sal_ast.specs.declared.statement.Stage.TheFolds.{map-Stage, map-Stmt, fold-roll-Stage, fold-roll-Stmt}
use Rattle.sal_sorts.specs.declared.sort.Base.TheVariants.{Int, Boolean, Void}
use Rattle.sal_sorts.specs.declared.sort.Sort.{Sort}
use Rattle.sal_sorts.specs.Sorts.{is_same_sort, plain, is_int_sort, is_boolean_sort, is_void_sort, sort_below, sort_of_type}
use Rattle.sal_sorts.specs.Environments.{Environment, is_assignable, is_free}
use Rattle.sal_sorts.specs.Starts.{expr_start}
use Rattle.sal_sorts.specs.Expressions.{type_rules, type_verdict, index_rules, verdict_of_exprs, expr_verdict, expr_verdicts, expr_verdict_if}
use Rattle.sal_sorts.specs.Messages.{or_void}
use Rattle.sal_sorts.specs.Verdicts.{Violation, Verdict, Good, ◌also◌, node}
use Rattle.sal_types.specs.Statements as typing
use Rattle.sal_types.specs.Statements.{StmtTyping, StageTyping, StageWithStart, no_results, statement_rules, free_rules, value_rules, initial_rules, condition_rules, loop_rules, leave_rules, declare_verdict, target_verdict, store_rules, assign_verdict, assignment_rules, sequence_verdict, else_verdict, for_init_typing, for_next_verdict, for_turn_verdict, fits_result, return_rules, fits_join, join_rules, join_environment, stages_verdict, chain_start, continuation_rules, stmt_typing, stage_typing, chain_typing}
use Rattle.sal_types.proofs.StatementEquations.{typing-Stages}
use Rattle.sal_typing.specs.Known.{Each}
use Rattle.sal_typing.specs.Parts.{Pairwise, HasSort, HasSortIfAny}
use Rattle.sal_typing.specs.StatementParts.{after_stmt, SequenceParts, StagesParts, ValueParts, DeclareParts, assigned_variable, AssignParts, NextParts, InitParts, after_init, ElseParts, ReturnParts, PassedParts, JoinParts, StmtParts, StageParts}
use Rattle.sal_typing.specs.Laws.{StatementsHaveParts, StagesHaveParts}
use Rattle.sal_typing.proofs.Inverting.{good_is, also_parts, node_parts, unless_parts, map_parts, bind_parts, rule_holds, none_left, none_right}
use Rattle.sal_typing.proofs.Expressions.{variable_parts}
use Rattle.sal_typing.proofs.ExpressionParts.{same_sort_is, int_is, boolean_is, exprs_parts}
use Rattle.sal_typing.proofs.Messages.{if_none, not_none}

-- ---- lists

pub sequence_parts : (list : List Stmt) (env : Environment) (rs : List Sort) → sequence_verdict (map stmt_typing list) env ≡ Good rs → SequenceParts list env rs
sequence_parts [] env rs h = good_is [] rs h
sequence_parts (x ∷ xs) env rs h =
    let rest : Verdict (List Sort) = sequence_verdict (map stmt_typing xs) (after_stmt env x) in
    let p = map_parts (λ q. q.0 ++ q.1) ((stmt_typing x env).1 also rest) rs h in
    let both = also_parts (stmt_typing x env).1 rest p.0 p.1 in
    (p.0.0, p.0.1, both.left, sequence_parts xs (after_stmt env x) p.0.1 both.right, p.2)

stages_parts : (gs : List Stage) (before : Option Sort) (env : Environment) (s : Sort) → stages_verdict before (map stage_typing gs) env ≡ Good s → StagesParts before gs env s
stages_parts [] before env s h = good_is (or_void before) s h
stages_parts (g ∷ gs) before env s h =
    let b = bind_parts ((stage_typing g).1 env before) (λ t. stages_verdict (Some t) (map stage_typing gs) env) s h in
    (b.0, b.1, stages_parts gs (Some b.0) env s b.2)

chain_parts : (c : Chain) (env : Environment) (s : Sort) → stages_verdict None (chain_typing c) env ≡ Good s → StagesParts None c.stages env s
chain_parts c env s h = stages_parts c.stages None env s (ap (λ gs. stages_verdict None gs env) (sym (typing-Stages c)) ∙ h)

-- ---- values and types

pub written_parts : (env : Environment) (t : TypeName) (s : Sort) → type_verdict t env ≡ Good s → type_verdict t env ≡ Good (sort_of_type t)
unfolding type_verdict
written_parts env t s h = h ∙ ap (λ x. Good x) (sym (unless_parts (type_rules t env) (sort_of_type t) s h).1)

pub value_parts : (o : Option Expr) (env : Environment) (r : Option Sort) (to : Sort) → expr_verdict_if o env ≡ Good r → initial_rules o r to env ≡ [] → ValueParts o env to
value_parts None env r to h k = tt
value_parts (Some e) env r to h k =
    let i = map_parts (λ (x : Sort). Some x) (expr_verdict e env false) r h in
    let fits : value_rules e i.0 to env ≡ [] = ap (λ x. initial_rules (Some e) x to env) i.2 ∙ k in
    (i.0, i.1, rule_holds 21 (expr_start e) (is_assignable env i.0 to) fits)

condition_parts : (o : Option Expr) (env : Environment) (r : Option Sort) → expr_verdict_if o env ≡ Good r → loop_rules o r ≡ [] → HasSortIfAny env o (plain Boolean)
condition_parts None env r h k = tt
condition_parts (Some e) env r h k =
    let i = map_parts (λ (x : Sort). Some x) (expr_verdict e env false) r h in
    let fits : condition_rules e i.0 ≡ [] = ap (loop_rules (Some e)) i.2 ∙ k in
    i.1 ∙ ap (λ x. Good x) (boolean_is i.0 (rule_holds 22 (expr_start e) (is_boolean_sort i.0) fits))

test_parts : (env : Environment) (test : Expr) (s : Sort) → expr_verdict test env false ≡ Good s → condition_rules test s ≡ [] → HasSort env test (plain Boolean)
test_parts env test s h k = h ∙ ap (λ x. Good x) (boolean_is s (rule_holds 22 (expr_start test) (is_boolean_sort s) k))

-- ---- declarations and assignments

middle : (a b c : List Violation) → a ++ b ++ c ≡ [] → b ≡ []
middle a b c h = none_right a b (none_left (a ++ b) c h)

last : (a b c : List Violation) → a ++ b ++ c ≡ [] → c ≡ []
last a b c h = none_right (a ++ b) c h

pub declare_parts : (rules : List Violation) (d : Declare) (env : Environment) (rs : List Sort) → declare_verdict rules d env ≡ Good rs → DeclareParts d env × ([] ≡ rs)
declare_parts rules d env rs h =
    let n = node_parts (type_verdict d.sort env also expr_verdict_if d.init env) (λ p. rules ++ free_rules d.name env ++ initial_rules d.init p.1 p.0 env) no_results rs h in
    let both = also_parts (type_verdict d.sort env) (expr_verdict_if d.init env) n.part n.typed in
    let written = written_parts env d.sort n.part.0 both.left in
    let is : n.part.0 ≡ sort_of_type d.sort = good_is n.part.0 (sort_of_type d.sort) (sym both.left ∙ written) in
    let free = rule_holds 9 d.name.at (is_free d.name.text env) (middle rules (free_rules d.name env) (initial_rules d.init n.part.1 n.part.0 env) n.keeps) in
    let fits = ap (λ x. initial_rules d.init n.part.1 x env) (sym is) ∙ last rules (free_rules d.name env) (initial_rules d.init n.part.1 n.part.0 env) n.keeps in
    ((written, value_parts d.init env n.part.1 (sort_of_type d.sort) both.right fits, free), n.is)

all_ints : (env : Environment) (es : List Expr) (ss : List Sort) → Pairwise (HasSort env) es ss → list_all is_int_sort ss ≡ true → Each (λ e. HasSort env e (plain Int)) es
all_ints env [] ss p h = tt
all_ints env (e ∷ es) [] p h = absurd p
all_ints env (e ∷ es) (s ∷ ss) p h =
    let both = and_parts (is_int_sort s) (list_all is_int_sort ss) h in
    (p.0 ∙ ap (λ x. Good x) (int_is s both.0), all_ints env es ss p.1 both.1)

as_many : {A B : Type 0} (R : A → B → Type 0) (xs : List A) (ys : List B) → Pairwise R xs ys → length ys ≡ length xs
as_many R [] [] p = refl
as_many R [] (y ∷ ys) p = absurd p
as_many R (x ∷ xs) [] p = absurd p
as_many R (x ∷ xs) (y ∷ ys) p = ap suc (as_many R xs ys p.1)

pub assign_parts : (rules : List Violation) (a : Assign) (env : Environment) (rs : List Sort) → assign_verdict rules a env ≡ Good rs → AssignParts a env × ([] ≡ rs)
assign_parts rules a env rs h =
    let indexes : Verdict (List Sort) = verdict_of_exprs (expr_verdicts a.indexes) env in
    let n = node_parts (target_verdict a env also indexes also expr_verdict a.value env false) (λ p. rules ++ store_rules a p.0.0 p.0.1 p.1 env) no_results rs h in
    let both = also_parts (target_verdict a env also indexes) (expr_verdict a.value env false) n.part n.typed in
    let two = also_parts (target_verdict a env) indexes n.part.0 both.left in
    let v = variable_parts a.name.at (assigned_variable a env) n.part.0.0 two.left in
    let pairs = exprs_parts a.indexes env n.part.0.1 two.right in
    let many = as_many (HasSort env) a.indexes n.part.0.1 pairs in
    let store = if_none (nat_le (length n.part.0.1) n.part.0.0.dims && list_all is_int_sort n.part.0.1) (value_rules a.value n.part.1 (sort_below n.part.0.0 (length n.part.0.1)) env) (index_rules a.name.at false)
    (none_right rules (store_rules a n.part.0.0 n.part.0.1 n.part.1 env) n.keeps) (not_none _ []) in
    let fit = and_parts (nat_le (length n.part.0.1) n.part.0.0.dims) (list_all is_int_sort n.part.0.1) store.0 in
    let within : length n.part.0.1 ≤ n.part.0.0.dims = leb-true (length n.part.0.1) n.part.0.0.dims fit.0 in
    let assignable = rule_holds 21 (expr_start a.value) (is_assignable env n.part.1 (sort_below n.part.0.0 (length n.part.0.1))) store.1 in (
      record {
        variable = v.0;
        found = v.1;
        no_token = v.2;
        indexes = all_ints env a.indexes n.part.0.1 pairs fit.1;
        levels = subst (λ k. k ≤ v.0.sort.dims) many (subst (λ (s : Sort). length n.part.0.1 ≤ s.dims) (sym v.3) within);
        value = n.part.1;
        typed = both.right;
        fits = subst (λ k. is_assignable env n.part.1 (sort_below v.0.sort k) ≡ true) many (subst (λ (s : Sort). is_assignable env n.part.1 (sort_below s (length n.part.0.1)) ≡ true) (sym v.3) assignable);
      },
      n.is,
    )

init_parts : (i : ForInit) (env : Environment) (rs : List Sort) → (for_init_typing i env).1 ≡ Good rs → InitParts i env
init_parts init.Nothing env rs h = tt
init_parts (init.Declare d) env rs h = (declare_parts [] d env rs h).0
init_parts (init.Assign a) env rs h = (assign_parts [] a env rs h).0

next_parts : (o : Option Assign) (env : Environment) (rs : List Sort) → for_next_verdict o env ≡ Good rs → NextParts o env
next_parts None env rs h = tt
next_parts (Some a) env rs h = (assign_parts [] a env rs h).0

-- ---- `return` and joins

void_is : (s : Sort) → is_void_sort s ≡ true → s ≡ plain Void
unfolding is_void_sort
void_is s h = same_sort_is s (plain Void) h

return_parts : (at : ℕ) (o : Option Expr) (env : Environment) (r : Option Sort) → expr_verdict_if o env ≡ Good r → return_rules at r env ≡ [] → ReturnParts o env
return_parts at None env r h k =
    let is : None ≡ r = good_is None r h in
    let fits : return_rules at None env ≡ [] = ap (λ x. return_rules at x env) is ∙ k in
    void_is env.result (rule_holds 23 at (is_void_sort env.result) fits)
return_parts at (Some e) env r h k =
    let i = map_parts (λ (x : Sort). Some x) (expr_verdict e env false) r h in
    let fits : return_rules at (Some i.0) env ≡ [] = ap (λ x. return_rules at x env) i.2 ∙ k in
    (i.0, i.1, rule_holds 23 at (is_assignable env i.0 env.result) fits)

passed_parts : (passed : Option ℕ) (s : Sort) (env : Environment) → continuation_rules passed s env ≡ [] → PassedParts passed env s
passed_parts None s env h = tt
passed_parts (Some at) s env h =
    let both = and_parts (not env.in_join) (is_same_sort s env.result) (rule_holds 29 at (not env.in_join && is_same_sort s env.result) h) in
    (not-true env.in_join both.0, same_sort_is s env.result both.1)

all_same : (t : Sort) (ts : List Sort) → list_all (is_same_sort t) ts ≡ true → Each (λ u. t ≡ u) ts
all_same t [] h = tt
all_same t (u ∷ us) h = let both = and_parts (is_same_sort t u) (list_all (is_same_sort t) us) h in (same_sort_is t u both.0, all_same t us both.1)

join_parts : (rs : List Sort) (s : Sort) → fits_join rs ≡ true → typing.join_sort rs ≡ s → JoinParts rs s
join_parts [] s f e = absurd cc
join_parts (t ∷ ts) s f e =
    let both = and_parts (list_all (is_same_sort t) ts) (nat_lt t.dims 8) f in
    let small : t.dims < 8 = ltb-true t.dims 8 both.1 in
    (all_same t ts both.0, small, e)

-- ---- each form

abbrev pub typed_form : Stmt-F Stage Stmt Chain → StmtTyping
typed_form z = typing.stmt_step (map-Stmt Stage Stmt Chain StageWithStart StmtTyping (List StageWithStart) stage_typing stmt_typing chain_typing z)

if_parts : (at : ℕ) (test : Expr) (first : Stmt) (second : Option Stmt) (env : Environment) (rs : List Sort)
    → node (expr_verdict test env false also (stmt_typing first env).1 also else_verdict (option_map stmt_typing second) env) (λ p. statement_rules env at ++ condition_rules test p.0.0) (λ p. p.0.1 ++ p.1) ≡ Good rs
    → ((ys : List Sort) → else_verdict (option_map stmt_typing second) env ≡ Good ys → ElseParts second env ys) → StmtParts (Stmt-F.If at test first second) env rs
if_parts at test first second env rs h other =
    let two : Verdict (Sort × List Sort) = expr_verdict test env false also (stmt_typing first env).1 in
    let n = node_parts (two also else_verdict (option_map stmt_typing second) env) (λ p. statement_rules env at ++ condition_rules test p.0.0) (λ p. p.0.1 ++ p.1) rs h in
    let both = also_parts two (else_verdict (option_map stmt_typing second) env) n.part n.typed in
    let front = also_parts (expr_verdict test env false) (stmt_typing first env).1 n.part.0 both.left in
    (n.part.0.1, n.part.1, test_parts env test n.part.0.0 front.left (none_right (statement_rules env at) (condition_rules test n.part.0.0) n.keeps), front.right, other n.part.1 both.right, n.is)

pub form_parts : (z : Stmt-F Stage Stmt Chain) (env : Environment) (rs : List Sort) → (typed_form z env).1 ≡ Good rs → StmtParts z env rs
form_parts (Stmt-F.Empty at) env rs h = good_is [] rs h
form_parts (Stmt-F.Block at list) env rs h =
    let n = node_parts (sequence_verdict (map stmt_typing list) env) (λ ss. statement_rules env at) (λ ss. ss) rs h in
    sequence_parts list env rs (n.typed ∙ ap (λ x. Good x) n.is)
form_parts (Stmt-F.Declare d) env rs h = declare_parts (statement_rules env d.sort.at) d env rs h
form_parts (Stmt-F.Assign a) env rs h = assign_parts (assignment_rules a env) a env rs h
form_parts (Stmt-F.If at test first None) env rs h = if_parts at test first None env rs h (λ ys g. good_is [] ys g)
form_parts (Stmt-F.If at test first (Some second)) env rs h = if_parts at test first (Some second) env rs h (λ ys g. g)
form_parts (Stmt-F.While at test body) env rs h =
    let n = node_parts (expr_verdict test env false also (stmt_typing body env).1) (λ p. statement_rules env at ++ condition_rules test p.0) (λ p. p.1) rs h in
    let both = also_parts (expr_verdict test env false) (stmt_typing body env).1 n.part n.typed in
    (test_parts env test n.part.0 both.left (none_right (statement_rules env at) (condition_rules test n.part.0) n.keeps), both.right ∙ ap (λ x. Good x) n.is)
form_parts (Stmt-F.For at i test next body) env rs h =
    let inner : Environment = after_init env i in
    let turn : Verdict (Option Sort × List Sort) = for_turn_verdict test next (stmt_typing body) inner in
    let n = node_parts ((for_init_typing i env).1 also turn) (λ p. statement_rules env at ++ loop_rules test p.1.0) (λ p. p.1.1) rs h in
    let both = also_parts (for_init_typing i env).1 turn n.part n.typed in
    let q = map_parts (λ p. (p.0.0, p.1)) (expr_verdict_if test inner also for_next_verdict next inner also (stmt_typing body inner).1) n.part.1 both.right in
    let three = also_parts (expr_verdict_if test inner also for_next_verdict next inner) (stmt_typing body inner).1 q.0 q.1 in
    let two = also_parts (expr_verdict_if test inner) (for_next_verdict next inner) q.0.0 three.left in
    let fits : loop_rules test q.0.0.0 ≡ [] = ap (λ (p : Option Sort × List Sort). loop_rules test p.0) q.2 ∙ none_right (statement_rules env at) (loop_rules test n.part.1.0) n.keeps in
    let same : q.0.1 ≡ rs = ap (λ (p : Option Sort × List Sort). p.1) q.2 ∙ n.is in
    (init_parts i env n.part.0 both.left, condition_parts test inner q.0.0.0 two.left fits, next_parts next inner q.0.0.1 two.right, three.right ∙ ap (λ x. Good x) same)
form_parts (Stmt-F.Return at value) env rs h =
    let n = node_parts (expr_verdict_if value env) (λ s. statement_rules env at ++ return_rules at s env ++ leave_rules at (not env.in_join)) no_results rs h in
    let outside = rule_holds 29 at (not env.in_join) (last (statement_rules env at) (return_rules at n.part env) (leave_rules at (not env.in_join)) n.keeps) in
    (return_parts at value env n.part n.typed (middle (statement_rules env at) (return_rules at n.part env) (leave_rules at (not env.in_join)) n.keeps), not-true env.in_join outside, n.is)
form_parts (Stmt-F.Token at name chain) env rs h =
    let n = node_parts (stages_verdict None (chain_typing chain) env) (λ s. statement_rules env at ++ free_rules name env ++ leave_rules at (not env.in_join)) no_results rs h in
    let free = rule_holds 9 name.at (is_free name.text env) (middle (statement_rules env at) (free_rules name env) (leave_rules at (not env.in_join)) n.keeps) in
    let outside = rule_holds 29 at (not env.in_join) (last (statement_rules env at) (free_rules name env) (leave_rules at (not env.in_join)) n.keeps) in
    (n.part, chain_parts chain env n.part n.typed, free, not-true env.in_join outside, n.is)
form_parts (Stmt-F.Chain chain passed) env rs h =
    let n = node_parts (stages_verdict None (chain_typing chain) env) (λ s. statement_rules env (chain_start (chain_typing chain)) ++ continuation_rules passed s env) (λ s. s ∷ []) rs h in
    (n.part, chain_parts chain env n.part n.typed, passed_parts passed n.part env (none_right (statement_rules env (chain_start (chain_typing chain))) (continuation_rules passed n.part env) n.keeps), n.is)

rolled_stmt : (st : Stmt) → roll-Stmt (out-Stmt st) ≡ st
rolled_stmt st = search (rules, the_lemmas)

rolled_stage : (g : Stage) → roll-Stage (out-Stage g) ≡ g
rolled_stage g = search (rules, the_lemmas)

typing_is : (st : Stmt) → stmt_typing st ≡ typed_form (out-Stmt st)
unfolding stage_typing stmt_typing chain_typing
typing_is st = ap stmt_typing (sym (rolled_stmt st)) ∙ fold-roll-Stmt StageWithStart StmtTyping (List StageWithStart) typing.stage_step typing.stmt_step typing.chain_step (out-Stmt st)

pub statements_have_parts : StatementsHaveParts
statements_have_parts env st rs h = form_parts (out-Stmt st) env rs (ap (λ (m : StmtTyping). (m env).1) (sym (typing_is st)) ∙ h)

abbrev pub typed_stage : Stage-F Stage Stmt Chain → StageWithStart
typed_stage z = typing.stage_step (map-Stage Stage Stmt Chain StageWithStart StmtTyping (List StageWithStart) stage_typing stmt_typing chain_typing z)

pub stage_form_parts : (z : Stage-F Stage Stmt Chain) (env : Environment) (before : Option Sort) (s : Sort) → (typed_stage z).1 env before ≡ Good s → StageParts z env before s
stage_form_parts (Stage-F.Message m) env before s h = h
stage_form_parts (Stage-F.Join at body) env before s h =
    let n = node_parts (sequence_verdict (map stmt_typing body) (join_environment env)) (join_rules at) typing.join_sort s h in
    (n.part, sequence_parts body (join_environment env) n.part n.typed, join_parts n.part s (rule_holds 30 at (fits_join n.part) n.keeps) n.is)

stage_is : (g : Stage) → stage_typing g ≡ typed_stage (out-Stage g)
unfolding stage_typing stmt_typing chain_typing
stage_is g = ap stage_typing (sym (rolled_stage g)) ∙ fold-roll-Stage StageWithStart StmtTyping (List StageWithStart) typing.stage_step typing.stmt_step typing.chain_step (out-Stage g)

pub stages_have_parts : StagesHaveParts
stages_have_parts env before g s h = stage_form_parts (out-Stage g) env before s (ap (λ (x : StageWithStart). x.1 env before) (sym (stage_is g)) ∙ h)
