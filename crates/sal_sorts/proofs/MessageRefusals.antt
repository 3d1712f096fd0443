-- The first violation in a message and in its parts.
use Rattle.std.proofs.Common.{◌≡◌, ℕ, ◌+◌, suc, Bool, true, false, ◌<◌, ◌≤◌, length, get_or, drop, drop-cons, add-one, List, [], ◌∷◌, ◌++◌, Option, Some, None, option_map, Result, Ok, Err, refl, sym, ap, ◌∙◌, subst, arith}
use Rattle.std.specs.Prelude.{if◌then◌else◌}
use Rattle.std.proofs.lemmas.List.{drop_all}
use Rattle.sal_ast.specs.declared.program.Ident.{Ident}
use Rattle.sal_ast.specs.declared.program.Param.{Param}
use Rattle.sal_ast.specs.declared.expression.Expr.{Expr, out-Expr}
use Rattle.sal_ast.specs.declared.statement.Aim.TheVariants as aim
use Rattle.sal_ast.specs.declared.statement.Arg.{Arg}
use Rattle.sal_ast.specs.declared.statement.Arg.TheVariants as arg
use Rattle.sal_ast.specs.declared.statement.Property.{Property}
use Rattle.sal_ast.specs.declared.statement.Property.TheVariants as property
use Rattle.sal_ast.specs.declared.statement.Send.{Send}
use Rattle.sal_sorts.specs.declared.sort.Base.TheVariants.{Str}
use Rattle.sal_sorts.specs.declared.sort.Sort.{Sort}
use Rattle.sal_sorts.specs.declared.variable.Variable.{Variable}
use Rattle.sal_sorts.specs.Sorts.{plain, is_int_sort, sort_of_type}
use Rattle.sal_sorts.specs.Environments.{Environment, is_assignable, variable_with_name, migrate_type}
use Rattle.sal_sorts.specs.Verdicts.{Violation, Verdict, Good, no_rules, fold_nodes, verdict_of_all}
use Rattle.sal_sorts.specs.declared.fault.TypeFault.{TypeFault}
use Rattle.sal_sorts.specs.declared.fault.TypeFault.TheVariants as fault
use Rattle.sal_sorts.specs.Refusals.{Yields, first, fine, and_then}
use Rattle.sal_sorts.specs.Expressions.{expr_verdict}
use Rattle.sal_sorts.specs.Messages.{local_of_expr, local_or_verdict, arg_verdict, property_rules, waitfor_rules, waitfor_verdict, property_verdict, repetition_rules, repetition_offset, aim_verdict, argument_rules, first_misfit_rules, send_rules, reply_sort, message_verdict}
use Rattle.sal_sorts.specs.code.Callees.{param_sorts}
use Rattle.sal_sorts.specs.code.Messaging.{args_result, all_fine, units_result, message_rules}
use Rattle.sal_sorts.proofs.Refusals.{first_good_unless, first_map_verdict, node1, node3, fold_next, fine_unit}

-- ---- arguments

local_there : (o : Option Variable) (v : Verdict Sort) (s : Sort) → option_map (λ v. v.sort) o ≡ Some s → first (local_or_verdict o v) ≡ Ok s
local_there None v s h = cc
local_there (Some x) v s h = cc

local_missing : (o : Option Variable) (v : Verdict Sort) → option_map (λ v. v.sort) o ≡ None → first (local_or_verdict o v) ≡ first v
local_missing None v h = refl
local_missing (Some x) v h = cc

pub arg_local : (env : Environment) (before : Option Sort) (e : Expr) (s : Sort) → option_map (λ v. v.sort) (local_of_expr (out-Expr e) env) ≡ Some s → first (arg_verdict env before (arg.Expr e)) ≡ Ok s
arg_local env before e s h = local_there (local_of_expr (out-Expr e) env) (expr_verdict e env false) s h

pub arg_other : (env : Environment) (before : Option Sort) (e : Expr) → option_map (λ v. v.sort) (local_of_expr (out-Expr e) env) ≡ None → first (arg_verdict env before (arg.Expr e)) ≡ first (expr_verdict e env false)
arg_other env before e h = local_missing (local_of_expr (out-Expr e) env) (expr_verdict e env false) h

args_cons : (done : List Sort) (o : Arg) (args : List Arg) (before : Option Sort) (env : Environment) → args_result done (o ∷ args) before env ≡ and_then (first (arg_verdict env before o)) (λ s. args_result (done ++ s ∷ []) args before env)
unfolding args_result
args_cons done o args before env = fold_next (arg_verdict env before) (λ p s. no_rules s) (λ p s. s.0 ++ s.1 ∷ []) done o args

pub args_at : (done : List Sort) (args : List Arg) (i : ℕ) (o : Arg) (before : Option Sort) (env : Environment) → i < length args → o ≡ get_or args i o → args_result done (drop i args) before env ≡ and_then (first (arg_verdict env before o)) (λ s. args_result (done ++ s ∷ []) (drop (i + 1) args) before env)
args_at done args i o before env h e =
    ap (λ l. args_result done l before env) (drop-cons args i o h ∙ ap (λ x. x ∷ drop (suc i) args) (sym e))
    ∙ args_cons done o (drop (suc i) args) before env
    ∙ ap (λ n. and_then (first (arg_verdict env before o)) (λ s. args_result (done ++ s ∷ []) (drop n args) before env)) (sym (add-one i))

pub args_none : (done : List Sort) (args : List Arg) (i : ℕ) (before : Option Sort) (env : Environment) → length args ≤ i → args_result done (drop i args) before env ≡ Ok done
unfolding args_result
args_none done args i before env h = ap (λ l. args_result done l before env) (drop_all i args h)

pub ruleset arguments = (first_good_unless, arg_local, arg_other, args_none)

-- ---- targets

pub aim_actor : (e : Expr) (env : Environment) → first (aim_verdict (aim.Actor e) env) ≡ and_then (first (expr_verdict e env false)) (λ s. Ok (Some s))
aim_actor e env = first_map_verdict (expr_verdict e env false) Some

pub ruleset targets = (aim_actor, first_map_verdict)

-- ---- parts that are nothing but judged

module _ {P : Type 0} (part : P → Verdict (Unit {0})) where
  from_done : List (Unit {0}) → List P → Result (Unit {0}) Violation
  from_done d ps = and_then (first (fold_nodes part (λ p s. no_rules s) (λ p s. s.0 ++ s.1 ∷ []) (Good d) ps)) all_fine

  step : (ps : List P) → ((d e : List (Unit {0})) → from_done d ps ≡ from_done e ps) → (r : Result (Unit {0}) Violation) (d e : List (Unit {0}))
      → and_then (and_then r (λ b. first (fold_nodes part (λ p s. no_rules s) (λ p s. s.0 ++ s.1 ∷ []) (Good (d ++ b ∷ [])) ps))) all_fine
      ≡ and_then (and_then r (λ b. first (fold_nodes part (λ p s. no_rules s) (λ p s. s.0 ++ s.1 ∷ []) (Good (e ++ b ∷ [])) ps))) all_fine
  unfolding from_done
  step ps same (Ok b) d e = same (d ++ b ∷ []) (e ++ b ∷ [])
  step ps same (Err v) d e = refl

  any_done : (ps : List P) (d e : List (Unit {0})) → from_done d ps ≡ from_done e ps
  unfolding from_done
  any_done [] d e = refl
  any_done (p ∷ ps) d e =
      ap (λ r. and_then r all_fine) (fold_next part (λ p s. no_rules s) (λ p s. s.0 ++ s.1 ∷ []) d p ps)
      ∙ step ps (any_done ps) (first (part p)) d e
      ∙ sym (ap (λ r. and_then r all_fine) (fold_next part (λ p s. no_rules s) (λ p s. s.0 ++ s.1 ∷ []) e p ps))

  head : (ps : List P) (r : Result (Unit {0}) Violation)
      → and_then (and_then r (λ b. first (fold_nodes part (λ p s. no_rules s) (λ p s. s.0 ++ s.1 ∷ []) (Good ([] ++ b ∷ [])) ps))) all_fine
      ≡ and_then r (λ u. units_result part ps)
  unfolding from_done units_result
  head ps (Ok b) = any_done ps (b ∷ []) []
  head ps (Err v) = refl

  units_cons : (p : P) (ps : List P) → units_result part (p ∷ ps) ≡ and_then (first (part p)) (λ u. units_result part ps)
  unfolding units_result
  units_cons p ps =
      ap (λ r. and_then r all_fine) (fold_next part (λ p s. no_rules s) (λ p s. s.0 ++ s.1 ∷ []) [] p ps)
      ∙ head ps (first (part p))

  pub units_at : (ps : List P) (i : ℕ) (p : P) → i < length ps → p ≡ get_or ps i p → units_result part (drop i ps) ≡ and_then (first (part p)) (λ u. units_result part (drop (i + 1) ps))
  units_at ps i p h e =
      ap (units_result part) (drop-cons ps i p h ∙ ap (λ x. x ∷ drop (suc i) ps) (sym e))
      ∙ units_cons p (drop (suc i) ps)
      ∙ ap (λ n. and_then (first (part p)) (λ u. units_result part (drop n ps))) (sym (add-one i))

  pub units_none : (ps : List P) (i : ℕ) → length ps ≤ i → units_result part (drop i ps) ≡ Ok tt
  unfolding units_result
  units_none ps i h = ap (units_result part) (drop_all i ps h)

-- ---- properties

rules_alone : (r : Result Sort Violation) (f : Sort → List Violation) → and_then r (λ s. and_then (fine (f s)) (λ u. Ok tt)) ≡ and_then r (λ s. fine (f s))
rules_alone (Ok s) f = fine_unit (f s)
rules_alone (Err v) f = refl

pub property_delay : (at : ℕ) (time : Expr) (env : Environment) → first (property_verdict env (property.Delay at time)) ≡ and_then (first (expr_verdict time env false)) (λ s. fine (property_rules at (is_int_sort s)))
property_delay at time env =
    node1 (expr_verdict time env false) (λ s. property_rules at (is_int_sort s)) (λ s. tt)
    ∙ rules_alone (first (expr_verdict time env false)) (λ s. property_rules at (is_int_sort s))

pub property_wait : (at : ℕ) (names : List Ident) (env : Environment) → first (property_verdict env (property.WaitFor at names)) ≡ units_result (waitfor_verdict env) names
unfolding units_result
property_wait at names env = first_map_verdict (verdict_of_all (waitfor_verdict env) names) (λ us. tt)

pub waitfor_first : (name : Ident) (env : Environment) → first (waitfor_verdict env name) ≡ fine (waitfor_rules name.at (variable_with_name name.text env))
waitfor_first name env =
    first_good_unless (waitfor_rules name.at (variable_with_name name.text env)) tt
    ∙ fine_unit (waitfor_rules name.at (variable_with_name name.text env))

pub waitfor_none : (env : Environment) (names : List Ident) (i : ℕ) → length names ≤ i → units_result (waitfor_verdict env) (drop i names) ≡ Ok tt
waitfor_none env names i h = units_none (waitfor_verdict env) names i h

pub property_none : (env : Environment) (ps : List Property) (i : ℕ) → length ps ≤ i → units_result (property_verdict env) (drop i ps) ≡ Ok tt
property_none env ps i h = units_none (property_verdict env) ps i h

pub ruleset properties = (property_delay, property_wait, waitfor_first, waitfor_none, property_none)

-- ---- calls

no_sorts : (env : Environment) (args : List Arg) (ts : List Sort) → first_misfit_rules env args [] ts ≡ []
no_sorts env [] ts = refl
no_sorts env (a ∷ args) ts = refl

pub misfit_end : (env : Environment) (args : List Arg) (ss : List Sort) (ps : List Param) (i : ℕ) → length ss ≤ i → first_misfit_rules env (drop i args) (drop i ss) (param_sorts (drop i ps)) ≡ []
misfit_end env args ss ps i h =
    ap (λ l. first_misfit_rules env (drop i args) l (param_sorts (drop i ps))) (drop_all i ss h)
    ∙ no_sorts env (drop i args) (param_sorts (drop i ps))

pub misfit_at : (env : Environment) (args : List Arg) (ss : List Sort) (ps : List Param) (i : ℕ) (a : Arg) (s : Sort) (p : Param) → drop i args ≡ a ∷ drop (suc i) args → i < length ss → i < length ps → s ≡ get_or ss i s → p ≡ get_or ps i p
    → first_misfit_rules env (drop i args) (drop i ss) (param_sorts (drop i ps)) ≡ (if is_assignable env s (sort_of_type p.sort) then first_misfit_rules env (drop (i + 1) args) (drop (i + 1) ss) (param_sorts (drop (i + 1) ps)) else argument_rules a false)
misfit_at env args ss ps i a s p ea hs hp es ep =
    ap (λ l. first_misfit_rules env l (drop i ss) (param_sorts (drop i ps))) ea
    ∙ ap (λ l. first_misfit_rules env (a ∷ drop (suc i) args) l (param_sorts (drop i ps))) (drop-cons ss i s hs ∙ ap (λ x. x ∷ drop (suc i) ss) (sym es))
    ∙ ap (λ l. first_misfit_rules env (a ∷ drop (suc i) args) (s ∷ drop (suc i) ss) (param_sorts l)) (drop-cons ps i p hp ∙ ap (λ x. x ∷ drop (suc i) ps) (sym ep))
    ∙ ap (λ n. if is_assignable env s (sort_of_type p.sort) then first_misfit_rules env (drop n args) (drop n ss) (param_sorts (drop n ps)) else argument_rules a false) (sym (add-one i))

pub misfit_here : (env : Environment) (args : List Arg) (ss : List Sort) (ps : List Param) (i : ℕ) (a : Arg) (s : Sort) (p : Param) → i < length args → i < length ss → i < length ps → a ≡ get_or args i a → s ≡ get_or ss i s → p ≡ get_or ps i p
    → is_assignable env s (sort_of_type p.sort) ≡ false → first_misfit_rules env (drop i args) (drop i ss) (param_sorts (drop i ps)) ≡ argument_rules a false
misfit_here env args ss ps i a s p ha hs hp ea es ep f =
    misfit_at env args ss ps i a s p (drop-cons args i a ha ∙ ap (λ x. x ∷ drop (suc i) args) (sym ea)) hs hp es ep
    ∙ ap (λ b. if b then first_misfit_rules env (drop (i + 1) args) (drop (i + 1) ss) (param_sorts (drop (i + 1) ps)) else argument_rules a false) f

pub misfit_later : (env : Environment) (args : List Arg) (ss : List Sort) (ps : List Param) (i : ℕ) (s : Sort) (p : Param) → i < length args → i < length ss → i < length ps → s ≡ get_or ss i s → p ≡ get_or ps i p
    → is_assignable env s (sort_of_type p.sort) ≡ true → first_misfit_rules env (drop i args) (drop i ss) (param_sorts (drop i ps)) ≡ first_misfit_rules env (drop (i + 1) args) (drop (i + 1) ss) (param_sorts (drop (i + 1) ps))
misfit_later env args ss ps i s p ha hs hp es ep t =
    misfit_at env args ss ps i (get_or args i (arg.Token 0)) s p (drop-cons args i (arg.Token 0) ha) hs hp es ep
    ∙ ap (λ b. if b then first_misfit_rules env (drop (i + 1) args) (drop (i + 1) ss) (param_sorts (drop (i + 1) ps)) else argument_rules (get_or args i (arg.Token 0)) false) t

migrate_test : (b : Bool) (env : Environment) (a : Arg) (args : List Arg) → fine (if b then first_misfit_rules env args [] [] else argument_rules a false) ≡ fine (argument_rules a b)
migrate_test true env a args = ap fine (no_sorts env args [])
migrate_test false env a args = refl

pub migrate_first : (env : Environment) (a : Arg) (args : List Arg) (s : Sort) → fine (first_misfit_rules env (a ∷ args) (s ∷ []) migrate_type.params) ≡ fine (argument_rules a (is_assignable env s (plain Str)))
migrate_first env a args s = migrate_test (is_assignable env s (plain Str)) env a args

pub migrate_at : (env : Environment) (args : List Arg) (a : Arg) (s : Sort) → 0 < length args → a ≡ get_or args 0 a → fine (first_misfit_rules env args (s ∷ []) migrate_type.params) ≡ fine (argument_rules a (is_assignable env s (plain Str)))
migrate_at env [] a s h e = absurd (omega arith)
migrate_at env (x ∷ args) a s h e = migrate_first env x args s ∙ ap (λ y. fine (argument_rules y (is_assignable env s (plain Str)))) (sym e)

pub ruleset calls = (misfit_end, migrate_first)

-- ---- the whole message

parts_alone : {A B : Type 0} (r : Result A Violation) (q : Result B Violation) (x : Result (List (Unit {0})) Violation) (f : A → B → Result Sort Violation)
    → and_then r (λ a. and_then q (λ b. and_then x (λ c. f a b))) ≡ and_then r (λ a. and_then q (λ b. and_then (and_then x all_fine) (λ u. f a b)))
parts_alone (Ok a) (Ok b) (Ok c) f = refl
parts_alone (Ok a) (Ok b) (Err v) f = refl
parts_alone (Ok a) (Err v) x f = refl
parts_alone (Err v) q x f = refl

pub message_first : (m : Send) (env : Environment) (before : Option Sort)
    → first (message_verdict m env before)
    ≡ and_then (first (aim_verdict m.aim env)) (λ target. and_then (args_result [] m.args before env) (λ sorts. and_then (units_result (property_verdict env) m.properties) (λ u. and_then (fine (message_rules m target sorts env)) (λ w. Ok (reply_sort m target env)))))
unfolding args_result units_result message_verdict message_rules
message_first m env before =
    node3 (aim_verdict m.aim env) (verdict_of_all (arg_verdict env before) m.args) (verdict_of_all (property_verdict env) m.properties)
    (λ p. send_rules m p.0.0 p.0.1 env ++ repetition_rules (repetition_offset false false m.properties)) (λ p. reply_sort m p.0.0 env)
    ∙ parts_alone (first (aim_verdict m.aim env)) (first (verdict_of_all (arg_verdict env before) m.args)) (first (verdict_of_all (property_verdict env) m.properties))
    (λ target sorts. and_then (fine (message_rules m target sorts env)) (λ w. Ok (reply_sort m target env)))

-- the steps of a message, once what stands before them is judged
module _ (m : Send) (env : Environment) (before : Option Sort) (target : Option Sort) (sorts : List Sort) where
  pub message_at_args : first (aim_verdict m.aim env) ≡ Ok target
      → first (message_verdict m env before) ≡ and_then (args_result [] m.args before env) (λ ss. and_then (units_result (property_verdict env) m.properties) (λ u. and_then (fine (message_rules m target ss env)) (λ w. Ok (reply_sort m target env))))
  message_at_args h =
      message_first m env before
      ∙ ap (λ r. and_then r (λ t. and_then (args_result [] m.args before env) (λ ss. and_then (units_result (property_verdict env) m.properties) (λ u. and_then (fine (message_rules m t ss env)) (λ w. Ok (reply_sort m t env)))))) h

  pub message_at_properties : first (aim_verdict m.aim env) ≡ Ok target → args_result [] m.args before env ≡ Ok sorts
      → first (message_verdict m env before) ≡ and_then (units_result (property_verdict env) m.properties) (λ u. and_then (fine (message_rules m target sorts env)) (λ w. Ok (reply_sort m target env)))
  message_at_properties h k =
      message_at_args h
      ∙ ap (λ r. and_then r (λ ss. and_then (units_result (property_verdict env) m.properties) (λ u. and_then (fine (message_rules m target ss env)) (λ w. Ok (reply_sort m target env))))) k

  pub message_at_rules : first (aim_verdict m.aim env) ≡ Ok target → args_result [] m.args before env ≡ Ok sorts → units_result (property_verdict env) m.properties ≡ Ok tt
      → first (message_verdict m env before) ≡ and_then (fine (message_rules m target sorts env)) (λ w. Ok (reply_sort m target env))
  message_at_rules h k j =
      message_at_properties h k
      ∙ ap (λ r. and_then r (λ u. and_then (fine (message_rules m target sorts env)) (λ w. Ok (reply_sort m target env)))) j

  pub message_at_end : first (aim_verdict m.aim env) ≡ Ok target → args_result [] m.args before env ≡ Ok sorts → units_result (property_verdict env) m.properties ≡ Ok tt → fine (message_rules m target sorts env) ≡ Ok tt
      → first (message_verdict m env before) ≡ Ok (reply_sort m target env)
  message_at_end h k j i =
      message_at_rules h k j
      ∙ ap (λ r. and_then r (λ w. Ok (reply_sort m target env))) i

-- an answer is what one result yields where it is what an equal one yields
pub yields_by : {A : Type 0} (x y : Result A Violation) (r : Result A TypeFault) → x ≡ y → Yields y r → Yields x r
yields_by {A} x y r e h = subst (λ (z : Result A Violation). Yields z r) (sym e) h

-- what refuses a part refuses the whole
pub refused_then : {A B : Type 0} (x : Result A Violation) (y : Result B Violation) (k : B → Result A Violation) (f : TypeFault) → x ≡ and_then y k → Yields y (Err f) → Yields x (Err f)
refused_then x y k (fault.Refused number at) e h = e ∙ ap (λ r. and_then r k) h
refused_then x y k fault.Memory e h = tt
