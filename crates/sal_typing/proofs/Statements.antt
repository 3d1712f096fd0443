-- What the meaning reads off typed statements, chains and joins is what the checker found.
use Rattle.std.proofs.Common.{◌≡◌, inl, inr, ℕ, ◌+◌, ◌<◌, ◌≤◌, Bool, true, false, not, ◌&&◌, cond, nat_lt, List, [], ◌∷◌, ◌++◌, map, Option, Some, None, option_map, refl, sym, ap, subst, ◌∙◌, arith}
use Rattle.std.specs.List.{list_all}
use Rattle.std.proofs.lemmas.Bool.{and_parts, ltb-true, ne_eqb, and_right}
use Rattle.sal_value.specs.declared.value.Base.{Base as MeantBase}
use Rattle.sal_value.specs.declared.value.Base.TheVariants as meant
use Rattle.sal_value.specs.declared.value.Sort.{Sort as MeantSort}
use Rattle.sal_ast.specs.declared.program.Behavior.{Behavior}
use Rattle.sal_ast.specs.declared.expression.Expr.{Expr}
use Rattle.sal_ast.specs.declared.statement.Declare.{Declare}
use Rattle.sal_ast.specs.declared.statement.Assign.{Assign}
use Rattle.sal_ast.specs.declared.statement.ForInit.{ForInit}
use Rattle.sal_ast.specs.declared.statement.ForInit.TheVariants as init
use Rattle.sal_ast.specs.declared.statement.Stage.{Stage}
use Rattle.sal_ast.specs.declared.statement.Stmt.{Stmt}
use Rattle.sal_ast.specs.declared.statement.Chain.{Chain}
use Rattle.sal_ast.specs.declared.statement.Stage.TheViews.{roll-Stage, roll-Stmt, roll-Chain}
use Rattle.sal_ast.specs.declared.statement.Stage.TheOpen.{Stage-F, Stmt-F, Chain-F}
use Rattle.sal_ast.specs.declared.statement.Stage.TheFolds.{fold-Stage, map-Stage, map-Stmt, map-Chain, fold-roll-Stage, fold-roll-Stmt, fold-roll-Chain, ind-Stmt, ind-Chain}
use Rattle.sal_ast.specs.Members.{behavior_by_name}
use Rattle.sal_ast.specs.Regular as regular
use Rattle.sal_ast.specs.Regular.{Form, form, all_forms_regular, has_any, all_true, if_form, declare_is_regular, assign_is_regular, expr_is_regular, init_is_regular, option_is_regular, or_true, send_is_regular, form_of, stage_is_regular, chain_is_regular}
use Rattle.sal_ast.specs.Sorts as text
use Rattle.sal_ast.specs.Sorts.{Scope, SortInScope, ScopeAndResult, ScopeChange, sort_with, with_dims, type_sort, first_result, scope_with_local, no_change, inner_change, change_then, changes_in_order, else_change, declare_change, for_init_change, join_result, last_result, stage_sort_step, scope_change_step, chain_sort_step, scope_change, result_of, is_void_result, is_void_join, message_result}
use Rattle.sal_ast.proofs.Closing.{Known}
use Rattle.sal_sorts.specs.declared.sort.Base.{Base}
use Rattle.sal_sorts.specs.declared.sort.Base.TheVariants.{Int, Boolean, Str, Actor, Void, Null}
use Rattle.sal_sorts.specs.declared.sort.Sort.{Sort}
use Rattle.sal_sorts.specs.declared.variable.Variable.{Variable}
use Rattle.sal_sorts.specs.Sorts.{is_same_base, is_same_sort, plain, is_void_sort, array_sort, sort_of_type}
use Rattle.sal_sorts.specs.Environments.{Environment, with_variable, new_variable, is_free}
use Rattle.sal_sorts.specs.Expressions.{type_verdict, verdict_of_exprs, expr_verdict, expr_verdicts, expr_verdict_if}
use Rattle.sal_sorts.specs.Verdicts.{Violation, Verdict, Good, ◌also◌}
use Rattle.sal_types.specs.Statements as typing
use Rattle.sal_types.specs.Statements.{StmtTyping, StageTyping, StageWithStart, with_no_name, no_results, statement_rules, free_rules, initial_rules, condition_rules, loop_rules, leave_rules, declare_typing, declare_verdict, target_verdict, store_rules, assign_verdict, assignment_rules, sequence_verdict, else_verdict, for_init_typing, for_next_verdict, for_turn_verdict, return_rules, fits_join, join_rules, join_environment, stages_verdict, chain_start, sort_or_void, continuation_rules, stmt_typing, stage_typing, chain_typing}
use Rattle.sal_typing.specs.Numbers.{number_base, number_sort, number_first, number_variable, scope_of}
use Rattle.sal_typing.specs.Known.{Each, is_no_void, IsValueSort, IsReplySort, IsKnownVariable, IsKnown}
use Rattle.sal_typing.specs.Laws.{StatementsKeepScopes, ChainsHaveTheirSorts, VoidJoinsAreVoid}
use Rattle.sal_typing.specs.Agreement.{ScopesAgree}
use Rattle.sal_typing.proofs.Inverting.{good_is, also_parts, node_parts, map_parts, bind_parts, rule_holds, none_left, none_right}
use Rattle.sal_typing.proofs.Finding.{each_join}
use Rattle.sal_typing.proofs.Numbering.{number_of_type, type_is_value, sort_parts, dims_valid}
use Rattle.sal_typing.proofs.Expressions.{type_parts}
use Rattle.sal_typing.proofs.Messages.{Replies, message_replies}
use Rattle.sal_typing.proofs.Scopes.{known_with, known_in_join, same_behaviors, scope_with}

-- ---- what a statement brings and what it results in

-- the results of several statements, for the checker and for the meaning
record ResultsAgree (behaviors : List Behavior) (rs : List Sort) (r : Option (Option MeantSort)) : Type 0 where
  pub is : r ≡ number_first rs behaviors
  pub replies : Each (λ s. IsReplySort s behaviors) rs

nothing_results : (behaviors : List Behavior) (rs : List Sort) → [] ≡ rs → ResultsAgree behaviors rs None
nothing_results behaviors rs e = subst (λ l. ResultsAgree behaviors l None) e (record { is = refl; replies = tt })

first_of_both : (xs ys : List Sort) (behaviors : List Behavior) → first_result (number_first xs behaviors) (number_first ys behaviors) ≡ number_first (xs ++ ys) behaviors
first_of_both [] ys behaviors = refl
first_of_both (x ∷ xs) ys behaviors = refl

both_result : (behaviors : List Behavior) (xs ys : List Sort) (a b : Option (Option MeantSort)) → ResultsAgree behaviors xs a → ResultsAgree behaviors ys b → ResultsAgree behaviors (xs ++ ys) (first_result a b)
both_result behaviors xs ys a b h k = record {
  is = ap (λ x. first_result x b) h.is ∙ ap (first_result (number_first xs behaviors)) k.is ∙ first_of_both xs ys behaviors;
  replies = each_join (λ s. IsReplySort s behaviors) xs ys h.replies k.replies;
}

-- nothing comes into scope
stays_agree : (env : Environment) (mine : ℕ) → IsKnown env mine → (rs : List Sort) (r : Option (Option MeantSort)) → ResultsAgree env.behaviors rs r → ScopesAgree env mine None rs (record { scope = scope_of env mine; result = r })
stays_agree env mine h rs r a = record { after = h; scope = refl; result = a.is; replies = a.replies }

-- a name comes into scope
brings_agree : (env : Environment) (mine : ℕ) → IsKnown env mine → (v : Variable) (k : Option MeantSort) → IsKnownVariable env.behaviors v → is_free v.name env ≡ true → k ≡ (number_variable env.behaviors v).sort
    → (rs : List Sort) → [] ≡ rs → ScopesAgree env mine (Some v) rs (no_change (scope_with_local v.name k (scope_of env mine)))
brings_agree env mine h v k known free e rs none =
    let r = nothing_results env.behaviors rs none in
    record { after = known_with env mine v h known free; scope = scope_with env mine v k e; result = r.is; replies = r.replies }

-- a statement's typing beside what the meaning reads off it, where it is regular
abbrev Alike : StmtTyping → Form → ScopeChange → Type 0
Alike m f c = (env : Environment) (mine : ℕ) → IsKnown env mine → f.regular ≡ true → (rs : List Sort) → (m env).1 ≡ Good rs → ScopesAgree env mine (m env).0 rs (c (scope_of env mine))

abbrev AlikeStage : StageWithStart → Bool → SortInScope → Type 0
AlikeStage g r k = (env : Environment) (mine : ℕ) → IsKnown env mine → r ≡ true → (before : Option Sort) (s : Sort) → g.1 env before ≡ Good s → Replies env.behaviors s (k (scope_of env mine))

abbrev AlikeChain : List StageWithStart → Bool → SortInScope → Type 0
AlikeChain gs r k = (env : Environment) (mine : ℕ) → IsKnown env mine → r ≡ true → (s : Sort) → stages_verdict None gs env ≡ Good s → Replies env.behaviors s (k (scope_of env mine))

abbrev stage_sort : Stage → SortInScope
stage_sort = fold-Stage SortInScope ScopeChange SortInScope stage_sort_step scope_change_step chain_sort_step

abbrev PT : Stmt → Type 0
PT st = Alike (stmt_typing st) (form_of st) (scope_change st)

abbrev PG : Stage → Type 0
PG g = AlikeStage (stage_typing g) (stage_is_regular g) (stage_sort g)

abbrev PC : Chain → Type 0
PC c = AlikeChain (chain_typing c) (chain_is_regular c) (result_of c)

-- ---- sequences

results_in : (env : Environment) (o : Option Variable) (rs : List Sort) (r : Option (Option MeantSort)) → ResultsAgree (with_variable env o).behaviors rs r → ResultsAgree env.behaviors rs r
results_in env o rs r h = subst (λ bs. ResultsAgree bs rs r) (same_behaviors env o) h

of_scopes : (env : Environment) (mine : ℕ) (o : Option Variable) (rs : List Sort) (c : ScopeAndResult) → ScopesAgree env mine o rs c → ResultsAgree env.behaviors rs c.result
of_scopes env mine o rs c h = record { is = h.result; replies = h.replies }

abbrev SequenceAlike : List Stmt → Type 0
SequenceAlike list = (env : Environment) (mine : ℕ) → IsKnown env mine → all_forms_regular (map form_of list) ≡ true → (rs : List Sort)
    → sequence_verdict (map stmt_typing list) env ≡ Good rs → ResultsAgree env.behaviors rs (changes_in_order (map scope_change list) (scope_of env mine)).result

sequence_alike : (list : List Stmt) → Each PT list → SequenceAlike list
sequence_alike [] each env mine h r rs g = nothing_results env.behaviors rs (good_is [] rs g)
sequence_alike (x ∷ xs) each env mine h r rs g =
    let rest : Verdict (List Sort) = sequence_verdict (map stmt_typing xs) (with_variable env (stmt_typing x env).0) in
    let p = map_parts (λ q. q.0 ++ q.1) ((stmt_typing x env).1 also rest) rs g in
    let both = also_parts (stmt_typing x env).1 rest p.0 p.1 in
    let fine = and_parts (form_of x).regular (all_forms_regular (map form_of xs)) r in
    let here = each.0 env mine h fine.0 p.0.0 both.left in
    let more = sequence_alike xs each.1 (with_variable env (stmt_typing x env).0) mine here.after fine.1 p.0.1 both.right in
    let change : ScopeChange = changes_in_order (map scope_change xs) in
    let there = subst (λ s. ResultsAgree env.behaviors p.0.1 (change s).result) (sym here.scope) (results_in env (stmt_typing x env).0 p.0.1 (change (scope_of (with_variable env (stmt_typing x env).0) mine)).result more) in
    subst (λ l. ResultsAgree env.behaviors l (changes_in_order (map scope_change (x ∷ xs)) (scope_of env mine)).result) p.2
    (both_result env.behaviors p.0.0 p.0.1 (scope_change x (scope_of env mine)).result (change (scope_change x (scope_of env mine)).scope).result (of_scopes env mine (stmt_typing x env).0 p.0.0 (scope_change x (scope_of env mine)) here) there)

each_known : {A : Type 0} (P : A → Type 0) (list : List (Known A P)) → Each P (map (λ z. z.0) list)
each_known P [] = tt
each_known P (x ∷ xs) = (x.1, each_known P xs)

-- ---- joins

void_base : (b : Base) → is_no_void b ≡ true → is_same_base b Void ≡ false
void_base Void h = absurd cc
void_base Int h = refl
void_base Boolean h = refl
void_base Str h = refl
void_base (Actor name) h = refl
void_base Null h = refl

and_false : (b c : Bool) → b ≡ false → (b && c) ≡ false
and_false true c h = absurd cc
and_false false c h = refl

value_is_no_void : (s : Sort) → is_no_void s.base ≡ true → is_void_sort s ≡ false
unfolding is_void_sort is_same_sort
value_is_no_void s h = and_false (is_same_base s.base Void) _ (void_base s.base h)

joined : (b : Base) (d : ℕ) (behaviors : List Behavior) → is_no_void b ≡ true → d < 8 → text.join_sort (sort_with (number_base b behaviors) d) ≡ sort_with (number_base b behaviors) (d + 1)
joined Void d behaviors h l = absurd cc
joined Int d behaviors h l = let few : d ≤ 8 = omega arith in ap text.join_sort (dims_valid meant.Int d few)
joined Boolean d behaviors h l = let few : d ≤ 8 = omega arith in ap text.join_sort (dims_valid meant.Bool d few)
joined Str d behaviors h l = let few : d ≤ 8 = omega arith in ap text.join_sort (dims_valid meant.Str d few)
joined (Actor name) d behaviors h l = by (behavior_by_name name behaviors)
  where
    by : (o : Option ℕ) → text.join_sort (sort_with (option_map meant.Actor o) d) ≡ sort_with (option_map meant.Actor o) (d + 1)
    by None = refl
    by (Some n) = let few : d ≤ 8 = omega arith in ap text.join_sort (dims_valid (meant.Actor n) d few)
joined Null d behaviors h l = refl

array_is_value : (s : Sort) (behaviors : List Behavior) → IsValueSort s behaviors → s.dims < 8 → IsValueSort (array_sort s) behaviors
unfolding number_sort array_sort
array_is_value s behaviors v l =
    let p = sort_parts (number_base s.base behaviors) s.dims v.number v.means in
    let few : s.dims + 1 ≤ 8 = omega arith in
    record { number = record { base = p.base; dims = s.dims + 1 }; means = ap (λ q. sort_with q (s.dims + 1)) p.known ∙ dims_valid p.base (s.dims + 1) few; no_void = v.no_void }

void_joined : (behaviors : List Behavior) → Replies behaviors (cond (is_void_sort (plain Void)) (plain Void) (array_sort (plain Void))) (text.join_sort (number_sort (plain Void) behaviors))
unfolding number_sort array_sort is_void_sort is_same_sort
void_joined behaviors = record { is = refl; known = inl refl }

join_replies_at : (behaviors : List Behavior) (s : Sort) → IsReplySort s behaviors → s.dims < 8 → Replies behaviors (cond (is_void_sort s) s (array_sort s)) (text.join_sort (number_sort s behaviors))
unfolding number_sort array_sort
join_replies_at behaviors s (inl void) l = subst (λ x. Replies behaviors (cond (is_void_sort x) x (array_sort x)) (text.join_sort (number_sort x behaviors))) (sym void) (void_joined behaviors)
join_replies_at behaviors s (inr v) l =
    subst (λ c. Replies behaviors (cond c s (array_sort s)) (text.join_sort (number_sort s behaviors))) (sym (value_is_no_void s v.no_void))
    (record { is = joined s.base s.dims behaviors v.no_void l; known = inr (array_is_value s behaviors v l) })

join_replies : (behaviors : List Behavior) (rs : List Sort) (s : Sort) (r : Option (Option MeantSort)) → fits_join rs ≡ true → typing.join_sort rs ≡ s → ResultsAgree behaviors rs r → Replies behaviors s (join_result r)
join_replies behaviors [] s r f e h = absurd cc
join_replies behaviors (x ∷ xs) s r f e h =
    let small : x.dims < 8 = ltb-true x.dims 8 (and_parts (list_all (is_same_sort x) xs) (nat_lt x.dims 8) f).1 in
    subst (λ y. Replies behaviors y (join_result r)) e (subst (λ q. Replies behaviors (cond (is_void_sort x) x (array_sort x)) (join_result q)) (sym h.is) (join_replies_at behaviors x h.replies.0 small))

-- ---- stages

stages_go : (gs : List Stage) → Each PG gs → (env : Environment) (mine : ℕ) → IsKnown env mine → all_true (map stage_is_regular gs) ≡ true → (t s : Sort) (k : Option MeantSort) → Replies env.behaviors t k
    → stages_verdict (Some t) (map stage_typing gs) env ≡ Good s → Replies env.behaviors s (last_result k (map stage_sort gs) (scope_of env mine))
stages_go [] each env mine h r t s k a g = subst (λ x. Replies env.behaviors x k) (good_is t s g) a
stages_go (x ∷ xs) each env mine h r t s k a g =
    let fine = and_parts (stage_is_regular x) (all_true (map stage_is_regular xs)) r in
    let b = bind_parts ((stage_typing x).1 env (Some t)) (λ y. stages_verdict (Some y) (map stage_typing xs) env) s g in
    stages_go xs each.1 env mine h fine.1 b.0 s (stage_sort x (scope_of env mine)) (each.0 env mine h fine.0 (Some t) b.0 b.1) b.2

stages_alike : (gs : List Stage) → Each PG gs → AlikeChain (map stage_typing gs) (has_any (map stage_is_regular gs) && all_true (map stage_is_regular gs)) (last_result None (map stage_sort gs))
stages_alike [] each env mine h r s g = absurd cc
stages_alike (x ∷ xs) each env mine h r s g =
    let fine = and_parts (stage_is_regular x) (all_true (map stage_is_regular xs)) r in
    let b = bind_parts ((stage_typing x).1 env None) (λ y. stages_verdict (Some y) (map stage_typing xs) env) s g in
    stages_go xs each.1 env mine h fine.1 b.0 s (stage_sort x (scope_of env mine)) (each.0 env mine h fine.0 None b.0 b.1) b.2

message_alike : (m : _) → AlikeStage (typing.stage_step (Stage-F.Message m)) (regular.stage_step (Stage-F.Message m)) (stage_sort_step (Stage-F.Message m))
message_alike m env mine h r before s g = message_replies env mine h m before s g

join_alike : (at : ℕ) (body : List Stmt) → Each PT body → AlikeStage (typing.stage_step (Stage-F.Join at (map stmt_typing body))) (regular.stage_step (Stage-F.Join at (map form_of body))) (stage_sort_step (Stage-F.Join at (map scope_change body)))
join_alike at body each env mine h r before s g =
    let n = node_parts (sequence_verdict (map stmt_typing body) (join_environment env)) (join_rules at) typing.join_sort s g in
    let results = sequence_alike body each (join_environment env) mine (known_in_join env mine h) r n.part n.typed in
    join_replies env.behaviors n.part s (changes_in_order (map scope_change body) (scope_of env mine)).result (rule_holds 30 at (fits_join n.part) n.keeps) n.is results

-- ---- declarations

initial_free : (a b c : List Violation) → a ++ b ++ c ≡ [] → b ≡ []
initial_free a b c h = none_right a b (none_left (a ++ b) c h)

declare_agrees : (rules : List Violation) (d : Declare) (env : Environment) (mine : ℕ) → IsKnown env mine → (rs : List Sort) → declare_verdict rules d env ≡ Good rs
    → ScopesAgree env mine (new_variable d.name (sort_of_type d.sort) false) rs (declare_change d (scope_of env mine))
declare_agrees rules d env mine h rs g =
    let n = node_parts (type_verdict d.sort env also expr_verdict_if d.init env) (λ p. rules ++ free_rules d.name env ++ initial_rules d.init p.1 p.0 env) no_results rs g in
    let both = also_parts (type_verdict d.sort env) (expr_verdict_if d.init env) n.part n.typed in
    let written = type_parts d.sort env n.part.0 h.few both.left in
    let free = rule_holds 9 d.name.at (is_free d.name.text env) (initial_free rules (free_rules d.name env) (initial_rules d.init n.part.1 n.part.0 env) n.keeps) in
    let v : Variable = record { name = d.name.text; sort = sort_of_type d.sort; is_token = false } in
    brings_agree env mine h v (type_sort d.sort env.behaviors) (type_is_value d.sort env.behaviors written.1) free (sym (number_of_type d.sort env.behaviors)) rs n.is

assign_agrees : (rules : List Violation) (a : Assign) (env : Environment) (mine : ℕ) → IsKnown env mine → (rs : List Sort) → assign_verdict rules a env ≡ Good rs
    → ScopesAgree env mine None rs (no_change (scope_of env mine))
assign_agrees rules a env mine h rs g =
    let n = node_parts (target_verdict a env also verdict_of_exprs (expr_verdicts a.indexes) env also expr_verdict a.value env false) (λ p. rules ++ store_rules a p.0.0 p.0.1 p.1 env) no_results rs g in
    stays_agree env mine h rs None (nothing_results env.behaviors rs n.is)

init_agrees : (i : ForInit) (env : Environment) (mine : ℕ) → IsKnown env mine → (rs : List Sort) → (for_init_typing i env).1 ≡ Good rs → ScopesAgree env mine (for_init_typing i env).0 rs (for_init_change i (scope_of env mine))
init_agrees init.Nothing env mine h rs g = stays_agree env mine h rs None (nothing_results env.behaviors rs (good_is [] rs g))
init_agrees (init.Declare d) env mine h rs g = declare_agrees [] d env mine h rs g
init_agrees (init.Assign a) env mine h rs g = assign_agrees [] a env mine h rs g

init_nothing : (i : ForInit) (s : Scope) → (for_init_change i s).result ≡ None
init_nothing init.Nothing s = refl
init_nothing (init.Declare d) s = refl
init_nothing (init.Assign a) s = refl

token_sort : (v : Verdict Sort) (s : Sort) → v ≡ Good s → s ≡ sort_or_void v
token_sort v s e = ap sort_or_void (sym e)

-- ---- each form

abbrev LayerG : Type 0
LayerG = Stage-F (Known Stage PG) (Known Stmt PT) (Known Chain PC)

abbrev LayerT : Type 0
LayerT = Stmt-F (Known Stage PG) (Known Stmt PT) (Known Chain PC)

abbrev LayerC : Type 0
LayerC = Chain-F (Known Stage PG) (Known Stmt PT) (Known Chain PC)

abbrev stage_trees : LayerG → Stage-F Stage Stmt Chain
stage_trees = map-Stage (Known Stage PG) (Known Stmt PT) (Known Chain PC) Stage Stmt Chain (λ z. z.0) (λ z. z.0) (λ z. z.0)

abbrev stmt_trees : LayerT → Stmt-F Stage Stmt Chain
stmt_trees = map-Stmt (Known Stage PG) (Known Stmt PT) (Known Chain PC) Stage Stmt Chain (λ z. z.0) (λ z. z.0) (λ z. z.0)

abbrev chain_trees : LayerC → Chain-F Stage Stmt Chain
chain_trees = map-Chain (Known Stage PG) (Known Stmt PT) (Known Chain PC) Stage Stmt Chain (λ z. z.0) (λ z. z.0) (λ z. z.0)

abbrev stmt_typed : Stmt-F Stage Stmt Chain → StmtTyping
stmt_typed z = typing.stmt_step (map-Stmt Stage Stmt Chain StageWithStart StmtTyping (List StageWithStart) stage_typing stmt_typing chain_typing z)

abbrev stmt_formed : Stmt-F Stage Stmt Chain → Form
stmt_formed z = regular.stmt_step (map-Stmt Stage Stmt Chain Bool Form Bool stage_is_regular form_of chain_is_regular z)

abbrev stmt_changed : Stmt-F Stage Stmt Chain → ScopeChange
stmt_changed z = scope_change_step (map-Stmt Stage Stmt Chain SortInScope ScopeChange SortInScope stage_sort scope_change result_of z)

-- results, taken as these
results_as : (behaviors : List Behavior) (xs rs : List Sort) (r : Option (Option MeantSort)) → xs ≡ rs → ResultsAgree behaviors xs r → ResultsAgree behaviors rs r
results_as behaviors xs rs r e h = subst (λ l. ResultsAgree behaviors l r) e h

one_result : (behaviors : List Behavior) (s : Sort) (k : Option MeantSort) → Replies behaviors s k → ResultsAgree behaviors (s ∷ []) (Some k)
one_result behaviors s k h = record { is = ap (λ x. Some x) h.is; replies = (h.known, tt) }

for_alike : (at : ℕ) (i : ForInit) (test : Option Expr) (next : Option Assign) (body : Stmt) → PT body → Alike (stmt_typed (Stmt-F.For at i test next body)) (stmt_formed (Stmt-F.For at i test next body)) (stmt_changed (Stmt-F.For at i test next body))
for_alike at i test next body more env mine h r rs g =
    let inner : Environment = with_variable env (for_init_typing i env).0 in
    let turn : Verdict (Option Sort × List Sort) = for_turn_verdict test next (stmt_typing body) inner in
    let n = node_parts ((for_init_typing i env).1 also turn) (λ p. statement_rules env at ++ loop_rules test p.1.0) (λ p. p.1.1) rs g in
    let both = also_parts (for_init_typing i env).1 turn n.part n.typed in
    let first = init_agrees i env mine h n.part.0 both.left in
    let q = map_parts (λ p. (p.0.0, p.1)) (expr_verdict_if test inner also for_next_verdict next inner also (stmt_typing body inner).1) n.part.1 both.right in
    let last = also_parts (expr_verdict_if test inner also for_next_verdict next inner) (stmt_typing body inner).1 q.0 q.1 in
    let fine = and_parts (init_is_regular i && option_is_regular test && or_true (option_map assign_is_regular next)) (form_of body).regular r in
    let b = more inner mine first.after fine.1 q.0.1 last.right in
    let there = subst (λ s. ResultsAgree env.behaviors q.0.1 (scope_change body s).result) (sym first.scope) (results_in env (for_init_typing i env).0 q.0.1 (scope_change body (scope_of inner mine)).result (of_scopes inner mine (stmt_typing body inner).0 q.0.1 (scope_change body (scope_of inner mine)) b)) in
    let whole = subst (λ o. ResultsAgree env.behaviors q.0.1 (first_result o (scope_change body (for_init_change i (scope_of env mine)).scope).result)) (sym (init_nothing i (scope_of env mine))) there in
    let same : q.0.1 ≡ rs = ap (λ (p : Option Sort × List Sort). p.1) q.2 ∙ n.is in
    stays_agree env mine h rs _ (results_as env.behaviors q.0.1 rs _ same whole)

-- what is known after the first part of a typed `for`
pub init_stays : (at : ℕ) (i : ForInit) (test : Option Expr) (next : Option Assign) (body : Stmt) (env : Environment) (mine : ℕ) → IsKnown env mine → (rs : List Sort)
    → (typing.stmt_step (Stmt-F.For at i test next (stmt_typing body)) env).1 ≡ Good rs → IsKnown (with_variable env (for_init_typing i env).0) mine
init_stays at i test next body env mine h rs g =
    let turn : Verdict (Option Sort × List Sort) = for_turn_verdict test next (stmt_typing body) (with_variable env (for_init_typing i env).0) in
    let n = node_parts ((for_init_typing i env).1 also turn) (λ p. statement_rules env at ++ loop_rules test p.1.0) (λ p. p.1.1) rs g in
    let both = also_parts (for_init_typing i env).1 turn n.part n.typed in
    (init_agrees i env mine h n.part.0 both.left).after

if_alike : (at : ℕ) (test : Expr) (first : Stmt) → PT first → Alike (stmt_typed (Stmt-F.If at test first None)) (stmt_formed (Stmt-F.If at test first None)) (stmt_changed (Stmt-F.If at test first None))
if_alike at test first f env mine h r rs g =
    let whole : Verdict (Sort × List Sort) = expr_verdict test env false also (stmt_typing first env).1 in
    let n = node_parts (whole also else_verdict None env) (λ p. statement_rules env at ++ condition_rules test p.0.0) (λ p. p.0.1 ++ p.1) rs g in
    let both = also_parts whole (else_verdict None env) n.part n.typed in
    let two = also_parts (expr_verdict test env false) (stmt_typing first env).1 n.part.0 both.left in
    let fine = and_parts (expr_is_regular test) (form_of first).regular r in
    let a = of_scopes env mine (stmt_typing first env).0 n.part.0.1 (scope_change first (scope_of env mine)) (f env mine h fine.1 n.part.0.1 two.right) in
    let b = nothing_results env.behaviors n.part.1 (good_is [] n.part.1 both.right) in
    stays_agree env mine h rs _ (results_as env.behaviors (n.part.0.1 ++ n.part.1) rs _ n.is (both_result env.behaviors n.part.0.1 n.part.1 (scope_change first (scope_of env mine)).result None a b))

else_alike : (at : ℕ) (test : Expr) (first second : Stmt) → PT first → PT second → Alike (stmt_typed (Stmt-F.If at test first (Some second))) (stmt_formed (Stmt-F.If at test first (Some second))) (stmt_changed (Stmt-F.If at test first (Some second)))
else_alike at test first second f k env mine h r rs g =
    let whole : Verdict (Sort × List Sort) = expr_verdict test env false also (stmt_typing first env).1 in
    let n = node_parts (whole also (stmt_typing second env).1) (λ p. statement_rules env at ++ condition_rules test p.0.0) (λ p. p.0.1 ++ p.1) rs g in
    let both = also_parts whole (stmt_typing second env).1 n.part n.typed in
    let two = also_parts (expr_verdict test env false) (stmt_typing first env).1 n.part.0 both.left in
    let fine = and_parts (expr_is_regular test && (form_of first).regular && not (form_of first).takes_else) (form_of second).regular r in
    let here = and_parts (expr_is_regular test) (form_of first).regular (and_parts (expr_is_regular test && (form_of first).regular) (not (form_of first).takes_else) fine.0).0 in
    let a = of_scopes env mine (stmt_typing first env).0 n.part.0.1 (scope_change first (scope_of env mine)) (f env mine h here.1 n.part.0.1 two.right) in
    let b = of_scopes env mine (stmt_typing second env).0 n.part.1 (scope_change second (scope_of env mine)) (k env mine h fine.1 n.part.1 both.right) in
    stays_agree env mine h rs _ (results_as env.behaviors (n.part.0.1 ++ n.part.1) rs _ n.is (both_result env.behaviors n.part.0.1 n.part.1 (scope_change first (scope_of env mine)).result (scope_change second (scope_of env mine)).result a b))

stmt_alike : (y : LayerT) → Alike (stmt_typed (stmt_trees y)) (stmt_formed (stmt_trees y)) (stmt_changed (stmt_trees y))
stmt_alike (Stmt-F.Empty at) env mine h r rs g = stays_agree env mine h rs None (nothing_results env.behaviors rs (good_is [] rs g))
stmt_alike (Stmt-F.Block at list) env mine h r rs g =
    let n = node_parts (sequence_verdict (map stmt_typing (map (λ z. z.0) list)) env) (λ ss. statement_rules env at) (λ ss. ss) rs g in
    let inside = sequence_alike (map (λ z. z.0) list) (each_known PT list) env mine h r n.part n.typed in
    stays_agree env mine h rs _ (results_as env.behaviors n.part rs _ n.is inside)
stmt_alike (Stmt-F.Declare d) env mine h r rs g = declare_agrees (statement_rules env d.sort.at) d env mine h rs g
stmt_alike (Stmt-F.Assign a) env mine h r rs g = assign_agrees (assignment_rules a env) a env mine h rs g
stmt_alike (Stmt-F.If at test first None) env mine h r rs g = if_alike at test first.0 first.1 env mine h r rs g
stmt_alike (Stmt-F.If at test first (Some second)) env mine h r rs g = else_alike at test first.0 second.0 first.1 second.1 env mine h r rs g
stmt_alike (Stmt-F.While at test body) env mine h r rs g =
    let n = node_parts (expr_verdict test env false also (stmt_typing body.0 env).1) (λ p. statement_rules env at ++ condition_rules test p.0) (λ p. p.1) rs g in
    let both = also_parts (expr_verdict test env false) (stmt_typing body.0 env).1 n.part n.typed in
    let fine = and_parts (expr_is_regular test) (form_of body.0).regular r in
    let b = of_scopes env mine (stmt_typing body.0 env).0 n.part.1 (scope_change body.0 (scope_of env mine)) (body.1 env mine h fine.1 n.part.1 both.right) in
    stays_agree env mine h rs _ (results_as env.behaviors n.part.1 rs _ n.is b)
stmt_alike (Stmt-F.For at i test next body) env mine h r rs g = for_alike at i test next body.0 body.1 env mine h r rs g
stmt_alike (Stmt-F.Return at value) env mine h r rs g =
    let n = node_parts (expr_verdict_if value env) (λ s. statement_rules env at ++ return_rules at s env ++ leave_rules at (not env.in_join)) no_results rs g in
    stays_agree env mine h rs None (nothing_results env.behaviors rs n.is)
stmt_alike (Stmt-F.Token at name c) env mine h r rs g =
    let stages : Verdict Sort = stages_verdict None (chain_typing c.0) env in
    let n = node_parts stages (λ s. statement_rules env at ++ free_rules name env ++ leave_rules at (not env.in_join)) no_results rs g in
    let reply = c.1 env mine h r n.part n.typed in
    let v : Variable = record { name = name.text; sort = sort_or_void stages; is_token = true } in
    let free = rule_holds 9 name.at (is_free name.text env) (initial_free (statement_rules env at) (free_rules name env) (leave_rules at (not env.in_join)) n.keeps) in
    let known : IsReplySort (sort_or_void stages) env.behaviors = subst (λ s. IsReplySort s env.behaviors) (token_sort stages n.part n.typed) reply.known in
    brings_agree env mine h v None known free refl rs n.is
stmt_alike (Stmt-F.Chain c passed) env mine h r rs g =
    let n = node_parts (stages_verdict None (chain_typing c.0) env) (λ s. statement_rules env (chain_start (chain_typing c.0)) ++ continuation_rules passed s env) (λ s. s ∷ []) rs g in
    let reply = c.1 env mine h r n.part n.typed in
    stays_agree env mine h rs _ (results_as env.behaviors (n.part ∷ []) rs _ n.is (one_result env.behaviors n.part (result_of c.0 (scope_of env mine)) reply))

alike_moved : (m n : StmtTyping) (f g : Form) (c d : ScopeChange) → m ≡ n → f ≡ g → c ≡ d → Alike n g d → Alike m f c
alike_moved m n f g c d a b e h = subst (λ x. Alike x f c) (sym a) (subst (λ x. Alike n x c) (sym b) (subst (λ x. Alike n g x) (sym e) h))

stmt_layer : (y : LayerT) → PT (roll-Stmt (stmt_trees y))
unfolding stage_typing stmt_typing chain_typing stage_is_regular form_of chain_is_regular scope_change result_of
stmt_layer y =
    let z = stmt_trees y in
    alike_moved (stmt_typing (roll-Stmt z)) (stmt_typed z) (form_of (roll-Stmt z)) (stmt_formed z) (scope_change (roll-Stmt z)) (stmt_changed z)
    (fold-roll-Stmt StageWithStart StmtTyping (List StageWithStart) typing.stage_step typing.stmt_step typing.chain_step z)
    (fold-roll-Stmt Bool Form Bool regular.stage_step regular.stmt_step regular.chain_step z)
    (fold-roll-Stmt SortInScope ScopeChange SortInScope stage_sort_step scope_change_step chain_sort_step z)
    (stmt_alike y)

abbrev stage_typed : Stage-F Stage Stmt Chain → StageWithStart
stage_typed z = typing.stage_step (map-Stage Stage Stmt Chain StageWithStart StmtTyping (List StageWithStart) stage_typing stmt_typing chain_typing z)

abbrev stage_formed : Stage-F Stage Stmt Chain → Bool
stage_formed z = regular.stage_step (map-Stage Stage Stmt Chain Bool Form Bool stage_is_regular form_of chain_is_regular z)

abbrev stage_sorted : Stage-F Stage Stmt Chain → SortInScope
stage_sorted z = stage_sort_step (map-Stage Stage Stmt Chain SortInScope ScopeChange SortInScope stage_sort scope_change result_of z)

stage_alike : (y : LayerG) → AlikeStage (stage_typed (stage_trees y)) (stage_formed (stage_trees y)) (stage_sorted (stage_trees y))
stage_alike (Stage-F.Message m) = message_alike m
stage_alike (Stage-F.Join at body) = join_alike at (map (λ z. z.0) body) (each_known PT body)

stage_moved : (m n : StageWithStart) (f g : Bool) (c d : SortInScope) → m ≡ n → f ≡ g → c ≡ d → AlikeStage n g d → AlikeStage m f c
stage_moved m n f g c d a b e h = subst (λ x. AlikeStage x f c) (sym a) (subst (λ x. AlikeStage n x c) (sym b) (subst (λ x. AlikeStage n g x) (sym e) h))

stage_layer : (y : LayerG) → PG (roll-Stage (stage_trees y))
unfolding stage_typing stmt_typing chain_typing stage_is_regular form_of chain_is_regular scope_change result_of
stage_layer y =
    let z = stage_trees y in
    stage_moved (stage_typing (roll-Stage z)) (stage_typed z) (stage_is_regular (roll-Stage z)) (stage_formed z) (stage_sort (roll-Stage z)) (stage_sorted z)
    (fold-roll-Stage StageWithStart StmtTyping (List StageWithStart) typing.stage_step typing.stmt_step typing.chain_step z)
    (fold-roll-Stage Bool Form Bool regular.stage_step regular.stmt_step regular.chain_step z)
    (fold-roll-Stage SortInScope ScopeChange SortInScope stage_sort_step scope_change_step chain_sort_step z)
    (stage_alike y)

abbrev chain_typed : Chain-F Stage Stmt Chain → List StageWithStart
chain_typed z = typing.chain_step (map-Chain Stage Stmt Chain StageWithStart StmtTyping (List StageWithStart) stage_typing stmt_typing chain_typing z)

abbrev chain_formed : Chain-F Stage Stmt Chain → Bool
chain_formed z = regular.chain_step (map-Chain Stage Stmt Chain Bool Form Bool stage_is_regular form_of chain_is_regular z)

abbrev chain_sorted : Chain-F Stage Stmt Chain → SortInScope
chain_sorted z = chain_sort_step (map-Chain Stage Stmt Chain SortInScope ScopeChange SortInScope stage_sort scope_change result_of z)

chain_moved : (m n : List StageWithStart) (f g : Bool) (c d : SortInScope) → m ≡ n → f ≡ g → c ≡ d → AlikeChain n g d → AlikeChain m f c
chain_moved m n f g c d a b e h = subst (λ x. AlikeChain x f c) (sym a) (subst (λ x. AlikeChain n x c) (sym b) (subst (λ x. AlikeChain n g x) (sym e) h))

chain_layer : (y : LayerC) → PC (roll-Chain (chain_trees y))
unfolding stage_typing stmt_typing chain_typing stage_is_regular form_of chain_is_regular scope_change result_of
chain_layer y =
    let z = chain_trees y in
    chain_moved (chain_typing (roll-Chain z)) (chain_typed z) (chain_is_regular (roll-Chain z)) (chain_formed z) (result_of (roll-Chain z)) (chain_sorted z)
    (fold-roll-Chain StageWithStart StmtTyping (List StageWithStart) typing.stage_step typing.stmt_step typing.chain_step z)
    (fold-roll-Chain Bool Form Bool regular.stage_step regular.stmt_step regular.chain_step z)
    (fold-roll-Chain SortInScope ScopeChange SortInScope stage_sort_step scope_change_step chain_sort_step z)
    (stages_alike (map (λ z. z.0) y.stages) (each_known PG y.stages))

keep_scopes_at : (st : Stmt) → PT st
keep_scopes_at = ind-Stmt PG PT PC (λ x y is. subst (λ z. PG (roll-Stage z)) is (stage_layer y)) (λ x y is. subst (λ z. PT (roll-Stmt z)) is (stmt_layer y)) (λ x y is. subst (λ z. PC (roll-Chain z)) is (chain_layer y))

chain_at : (c : Chain) → PC c
chain_at = ind-Chain PG PT PC (λ x y is. subst (λ z. PG (roll-Stage z)) is (stage_layer y)) (λ x y is. subst (λ z. PT (roll-Stmt z)) is (stmt_layer y)) (λ x y is. subst (λ z. PC (roll-Chain z)) is (chain_layer y))

-- ---- the laws

pub keep_scopes : StatementsKeepScopes
keep_scopes env mine h st r rs g = keep_scopes_at st env mine h r rs g

pub chains_have_sorts : ChainsHaveTheirSorts
chains_have_sorts env mine h c r s g = let a = chain_at c env mine h r s g in (a.is, a.known)

each_stmt : (body : List Stmt) → Each PT body
each_stmt [] = tt
each_stmt (x ∷ xs) = (keep_scopes_at x, each_stmt xs)

void_kind : (b : MeantBase) (d : ℕ) (c : Bool) → text.is_void_sort (Some (record { base = b; dims = d })) ≡ false → text.is_void_sort (cond c None (Some (record { base = b; dims = d }))) ≡ false
void_kind b d true h = refl
void_kind b d false h = h

no_void_number : (b : Base) (d : ℕ) (behaviors : List Behavior) → is_no_void b ≡ true → text.is_void_sort (sort_with (number_base b behaviors) d) ≡ false
no_void_number Void d behaviors h = absurd cc
no_void_number Int d behaviors h = void_kind meant.Int d (nat_lt 8 d) refl
no_void_number Boolean d behaviors h = void_kind meant.Bool d (nat_lt 8 d) refl
no_void_number Str d behaviors h = void_kind meant.Str d (nat_lt 8 d) refl
no_void_number (Actor name) d behaviors h = by (behavior_by_name name behaviors)
  where
    by : (o : Option ℕ) → text.is_void_sort (sort_with (option_map meant.Actor o) d) ≡ false
    by None = refl
    by (Some n) = void_kind (meant.Actor n) d (nat_lt 8 d) refl
no_void_number Null d behaviors h = refl

void_number : (behaviors : List Behavior) → text.is_void_sort (number_sort (plain Void) behaviors) ≡ is_void_sort (plain Void)
unfolding number_sort is_void_sort is_same_sort
void_number behaviors = refl

void_agrees : (s : Sort) (behaviors : List Behavior) → IsReplySort s behaviors → text.is_void_sort (number_sort s behaviors) ≡ is_void_sort s
unfolding number_sort
void_agrees s behaviors (inl e) = subst (λ x. text.is_void_sort (number_sort x behaviors) ≡ is_void_sort x) (sym e) (void_number behaviors)
void_agrees s behaviors (inr v) = no_void_number s.base s.dims behaviors v.no_void ∙ sym (value_is_no_void s v.no_void)

array_is_no_void : (s : Sort) → is_void_sort (array_sort s) ≡ false
unfolding is_void_sort is_same_sort array_sort
array_is_no_void s = and_right (is_same_base s.base Void) _ (ne_eqb (s.dims + 1) 0 (λ e. omega (arith, e)))

joined_void : (s : Sort) → is_void_sort s ≡ is_void_sort (cond (is_void_sort s) s (array_sort s))
joined_void s = by (is_void_sort s) refl
  where
    by : (b : Bool) → is_void_sort s ≡ b → is_void_sort s ≡ is_void_sort (cond b s (array_sort s))
    by true e = refl
    by false e = e ∙ sym (array_is_no_void s)

void_results : (rs : List Sort) (behaviors : List Behavior) → fits_join rs ≡ true → Each (λ s. IsReplySort s behaviors) rs → is_void_result (number_first rs behaviors) ≡ is_void_sort (typing.join_sort rs)
void_results [] behaviors f h = absurd cc
void_results (x ∷ xs) behaviors f h = void_agrees x behaviors h.0 ∙ joined_void x

pub void_joins : VoidJoinsAreVoid
unfolding is_void_join
void_joins env mine h body r rs g f =
    let inside = sequence_alike body (each_stmt body) (join_environment env) mine (known_in_join env mine h) r rs g in
    ap is_void_result inside.is ∙ void_results rs env.behaviors f inside.replies
