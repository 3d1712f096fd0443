-- The first violation in an expression, by one equation for each form.
use Rattle.std.proofs.Common.{◌≡◌, ℕ, ◌+◌, suc, Bool, true, false, ◌&&◌, ◌<◌, ◌≤◌, length, get_or, drop, drop-cons, add-one, List, [], ◌∷◌, ◌++◌, map, Option, Some, None, option_map, Result, Ok, Err, refl, sym, ap, ◌∙◌}
use Rattle.std.proofs.lemmas.List.{drop_all}
use Rattle.sal_ast.specs.declared.program.Ident.{Ident}
use Rattle.sal_ast.specs.declared.program.TypeName.{TypeName}
use Rattle.sal_ast.specs.declared.expression.Expr.{Expr}
use Rattle.sal_ast.specs.declared.expression.Operand.{Operand}
use Rattle.sal_ast.specs.declared.expression.Suffix.{Suffix}
use Rattle.sal_ast.specs.declared.expression.At.{At}
use Rattle.sal_ast.specs.declared.expression.Expr.TheVariants as e
use Rattle.sal_ast.specs.declared.expression.Suffix.TheVariants as x
use Rattle.sal_sorts.specs.declared.sort.Base.TheVariants.{Int, Boolean, Str, Actor, Null}
use Rattle.sal_sorts.specs.declared.sort.Sort.{Sort}
use Rattle.sal_sorts.specs.Sorts.{plain, is_int_sort, is_boolean_sort, is_array_sort, item_sort}
use Rattle.sal_sorts.specs.Environments.{Environment, field_with_name, variable_with_name}
use Rattle.sal_sorts.specs.Verdicts.{Violation, Verdict, Good, Bad, ◌also◌, good_unless, node, no_rules, map_verdict, fold_nodes}
use Rattle.sal_sorts.specs.Refusals.{first, fine, and_then}
use Rattle.sal_sorts.specs.Expressions.{verdict_of_exprs, verdict_of_option, type_verdict, variable_verdict, handler_only_rules, operands_fit, operator_sort, operator_rules, index_rules, length_rules, suffix_rules, suffix_sort, array_rules, are_all_assignable, location_rules, location_verdict, new_rules, by_name_rules, number_rules, expr_verdict, operand_verdict, suffix_verdict, at_verdict, expr_verdicts, expr_verdict_if}
use Rattle.sal_sorts.specs.code.Judging.{level_result, operator_result, suffixes_result, index_result, length_result, exprs_result, location_result, new_result, by_name_result}
use Rattle.sal_sorts.proofs.Refusals.{first_good_unless, first_map_verdict, node1, node2, fold_first, fold_next, fine_unit}
use Rattle.sal_sorts.proofs.ExpressionEquations.{expr_verdict-Number, expr_verdict-Str, expr_verdict-Bool, expr_verdict-Null, expr_verdict-Me, expr_verdict-Name, expr_verdict-Own, expr_verdict-Paren, expr_verdict-Neg, expr_verdict-Not, expr_verdict-Level, expr_verdict-Suffixed, expr_verdict-Make, expr_verdict-ListOf, expr_verdict-ByName, expr_verdict-New, suffix_verdict-Index, suffix_verdict-Length, at_verdict-At, operand_verdict-Operand}

-- ---- forms

pub first-Number : (n at : ℕ) (env : Environment) (m : Bool) → first (expr_verdict (e.Number n at) env m) ≡ first (good_unless (number_rules n at m) (plain Int))
first-Number n at env m = ap (λ f. first (f env m)) (expr_verdict-Number n at)

pub first-Str : (text : List ℕ) (at : ℕ) (env : Environment) (m : Bool) → first (expr_verdict (e.Str text at) env m) ≡ Ok (plain Str)
first-Str text at env m = ap (λ f. first (f env m)) (expr_verdict-Str text at)

pub first-Bool : (b : Bool) (at : ℕ) (env : Environment) (m : Bool) → first (expr_verdict (e.Bool b at) env m) ≡ Ok (plain Boolean)
first-Bool b at env m = ap (λ f. first (f env m)) (expr_verdict-Bool b at)

pub first-Null : (at : ℕ) (env : Environment) (m : Bool) → first (expr_verdict (e.Null at) env m) ≡ Ok (plain Null)
first-Null at env m = ap (λ f. first (f env m)) (expr_verdict-Null at)

pub first-Me : (at : ℕ) (env : Environment) (m : Bool) → first (expr_verdict (e.Me at) env m) ≡ and_then (fine (handler_only_rules env at)) (λ u. Ok (plain (Actor env.own)))
first-Me at env m = ap (λ f. first (f env m)) (expr_verdict-Me at) ∙ first_good_unless (handler_only_rules env at) (plain (Actor env.own))

pub first-Name : (name : Ident) (env : Environment) (m : Bool) → first (expr_verdict (e.Name name) env m) ≡ first (variable_verdict name.at (variable_with_name name.text env))
first-Name name env m = ap (λ f. first (f env m)) (expr_verdict-Name name)

pub first-Own : (at : ℕ) (name : Ident) (env : Environment) (m : Bool) → first (expr_verdict (e.Own at name) env m) ≡ first (variable_verdict name.at (field_with_name name.text env))
first-Own at name env m = ap (λ f. first (f env m)) (expr_verdict-Own at name)

pub first-Paren : (at : ℕ) (a : Expr) (env : Environment) (m : Bool) → first (expr_verdict (e.Paren at a) env m) ≡ first (expr_verdict a env false)
first-Paren at a env m = ap (λ f. first (f env m)) (expr_verdict-Paren at a)

pub first-Neg : (at : ℕ) (a : Expr) (env : Environment) (m : Bool) → first (expr_verdict (e.Neg at a) env m) ≡ and_then (first (expr_verdict a env true)) (λ s. and_then (fine (operator_rules at (is_int_sort s))) (λ u. Ok (plain Int)))
first-Neg at a env m = ap (λ f. first (f env m)) (expr_verdict-Neg at a) ∙ node1 (expr_verdict a env true) (λ s. operator_rules at (is_int_sort s)) (λ s. plain Int)

pub first-Not : (at : ℕ) (a : Expr) (env : Environment) (m : Bool) → first (expr_verdict (e.Not at a) env m) ≡ and_then (first (expr_verdict a env false)) (λ s. and_then (fine (operator_rules at (is_boolean_sort s))) (λ u. Ok (plain Boolean)))
first-Not at a env m = ap (λ f. first (f env m)) (expr_verdict-Not at a) ∙ node1 (expr_verdict a env false) (λ s. operator_rules at (is_boolean_sort s)) (λ s. plain Boolean)

pub first-Level : (a : Expr) (rest : List Operand) (env : Environment) (m : Bool) → first (expr_verdict (e.Level a rest) env m) ≡ and_then (first (expr_verdict a env false)) (λ s. level_result s rest env)
unfolding level_result
first-Level a rest env m =
    ap (λ f. first (f env m)) (expr_verdict-Level a rest)
    ∙ fold_first (λ p. p.2 env false) (λ p s. operator_rules p.1 (operands_fit env p.0 s.0 s.1)) (λ p s. operator_sort p.0 s.0 s.1) (expr_verdict a env false) (map operand_verdict rest)

pub first-Suffixed : (a : Expr) (rest : List Suffix) (env : Environment) (m : Bool) → first (expr_verdict (e.Suffixed a rest) env m) ≡ and_then (first (expr_verdict a env m)) (λ s. suffixes_result s rest env)
unfolding suffixes_result
first-Suffixed a rest env m =
    ap (λ f. first (f env m)) (expr_verdict-Suffixed a rest)
    ∙ fold_first (λ p. verdict_of_option p.1 env) suffix_rules suffix_sort (expr_verdict a env m) (map suffix_verdict rest)

pub first-Make : (at : ℕ) (t : TypeName) (a : Expr) (env : Environment) (m : Bool) → first (expr_verdict (e.Make at t a) env m) ≡ and_then (first (type_verdict t env)) (λ s. and_then (first (expr_verdict a env false)) (λ i. and_then (fine (array_rules at (is_int_sort i))) (λ u. Ok s)))
first-Make at t a env m = ap (λ f. first (f env m)) (expr_verdict-Make at t a) ∙ node2 (type_verdict t env) (expr_verdict a env false) (λ s. array_rules at (is_int_sort s.1)) (λ s. s.0)

pub first-ListOf : (at : ℕ) (t : TypeName) (items : List Expr) (env : Environment) (m : Bool) → first (expr_verdict (e.ListOf at t items) env m) ≡ and_then (first (type_verdict t env)) (λ s. and_then (exprs_result [] items env) (λ is. and_then (fine (array_rules at (are_all_assignable env is (item_sort s)))) (λ u. Ok s)))
unfolding exprs_result
first-ListOf at t items env m = ap (λ f. first (f env m)) (expr_verdict-ListOf at t items) ∙ node2 (type_verdict t env) (verdict_of_exprs (expr_verdicts items) env) (λ s. array_rules at (are_all_assignable env s.1 (item_sort s.0))) (λ s. s.0)

pub first-ByName : (at : ℕ) (cast : Option Ident) (b : Ident) (a : Expr) (env : Environment) (m : Bool) → first (expr_verdict (e.ByName at cast b a) env m) ≡ and_then (first (expr_verdict a env false)) (λ s. by_name_result at cast b s env)
first-ByName at cast b a env m = ap (λ f. first (f env m)) (expr_verdict-ByName at cast b a) ∙ node1 (expr_verdict a env false) (λ s. handler_only_rules env at ++ by_name_rules cast b s env) (λ s. plain (Actor b.text))

pub first-New : (at : ℕ) (b : Ident) (args : List Expr) (place : Option At) (env : Environment) (m : Bool) → first (expr_verdict (e.New at b args place) env m) ≡ and_then (exprs_result [] args env) (λ s. and_then (location_result place env) (λ u. new_result at b s env))
unfolding exprs_result location_result
first-New at b args place env m =
    ap (λ f. first (f env m)) (expr_verdict-New at b args place)
    ∙ node2 (verdict_of_exprs (expr_verdicts args) env) (location_verdict (option_map at_verdict place) env) (λ s. handler_only_rules env at ++ new_rules at b s.0 env) (λ s. plain (Actor b.text))

-- ---- operators

pub level_none : (a : Sort) (rest : List Operand) (i : ℕ) (env : Environment) → length rest ≤ i → level_result a (drop i rest) env ≡ Ok a
unfolding level_result
level_none a rest i env h = ap (λ l. level_result a l env) (drop_all i rest h)

-- one operand, and then the others
level_cons : (a : Sort) (o : Operand) (rest : List Operand) (env : Environment) → level_result a (o ∷ rest) env ≡ and_then (level_result a (o ∷ []) env) (λ s. level_result s rest env)
unfolding level_result
level_cons a o rest env =
    fold_first (λ p. p.2 env false) (λ p s. operator_rules p.1 (operands_fit env p.0 s.0 s.1)) (λ p s. operator_sort p.0 s.0 s.1)
    (node (Good a also (operand_verdict o).2 env false) (λ s. operator_rules (operand_verdict o).1 (operands_fit env (operand_verdict o).0 s.0 s.1)) (λ s. operator_sort (operand_verdict o).0 s.0 s.1))
    (map operand_verdict rest)

pub level_at : (a : Sort) (rest : List Operand) (i : ℕ) (o : Operand) (env : Environment) → i < length rest → o ≡ get_or rest i o → level_result a (drop i rest) env ≡ and_then (level_result a (o ∷ []) env) (λ s. level_result s (drop (i + 1) rest) env)
level_at a rest i o env h e =
    ap (λ l. level_result a l env) (drop-cons rest i o h ∙ ap (λ x. x ∷ drop (suc i) rest) (sym e))
    ∙ level_cons a o (drop (suc i) rest) env
    ∙ ap (λ n. and_then (level_result a (o ∷ []) env) (λ s. level_result s (drop n rest) env)) (sym (add-one i))

pub level_one : (a : Sort) (o : Operand) (env : Environment) → level_result a (o ∷ []) env ≡ and_then (first (expr_verdict o.value env false)) (λ b. operator_result env o.op o.at a b)
unfolding level_result
level_one a o env =
    ap (λ p. first (fold_nodes (λ p. p.2 env false) (λ p s. operator_rules p.1 (operands_fit env p.0 s.0 s.1)) (λ p s. operator_sort p.0 s.0 s.1) (Good a) (p ∷ []))) (operand_verdict-Operand o)
    ∙ node2 (Good a) (expr_verdict o.value env false) (λ s. operator_rules o.at (operands_fit env o.op s.0 s.1)) (λ s. operator_sort o.op s.0 s.1)

-- ---- indexes and `.length`

pub suffixes_none : (a : Sort) (rest : List Suffix) (i : ℕ) (env : Environment) → length rest ≤ i → suffixes_result a (drop i rest) env ≡ Ok a
unfolding suffixes_result
suffixes_none a rest i env h = ap (λ l. suffixes_result a l env) (drop_all i rest h)

suffixes_cons : (a : Sort) (o : Suffix) (rest : List Suffix) (env : Environment) → suffixes_result a (o ∷ rest) env ≡ and_then (suffixes_result a (o ∷ []) env) (λ s. suffixes_result s rest env)
unfolding suffixes_result
suffixes_cons a o rest env =
    fold_first (λ p. verdict_of_option p.1 env) suffix_rules suffix_sort
    (node (Good a also verdict_of_option (suffix_verdict o).1 env) (suffix_rules (suffix_verdict o)) (suffix_sort (suffix_verdict o)))
    (map suffix_verdict rest)

pub suffixes_at : (a : Sort) (rest : List Suffix) (i : ℕ) (o : Suffix) (env : Environment) → i < length rest → o ≡ get_or rest i o → suffixes_result a (drop i rest) env ≡ and_then (suffixes_result a (o ∷ []) env) (λ s. suffixes_result s (drop (i + 1) rest) env)
suffixes_at a rest i o env h e =
    ap (λ l. suffixes_result a l env) (drop-cons rest i o h ∙ ap (λ x. x ∷ drop (suc i) rest) (sym e))
    ∙ suffixes_cons a o (drop (suc i) rest) env
    ∙ ap (λ n. and_then (suffixes_result a (o ∷ []) env) (λ s. suffixes_result s (drop n rest) env)) (sym (add-one i))

index_of : (a : Sort) (v : Verdict Sort) (at : ℕ) → first (node (Good a also map_verdict Some v) (suffix_rules (at, None)) (suffix_sort (at, None))) ≡ and_then (first v) (λ i. index_result a at i)
index_of a (Good i) at = first_good_unless (index_rules at (is_array_sort a && is_int_sort i)) (item_sort a)
index_of a (Bad w ws) at = refl

pub suffixes_index : (a : Sort) (at : ℕ) (i : Expr) (env : Environment) → suffixes_result a (x.Index at i ∷ []) env ≡ and_then (first (expr_verdict i env false)) (λ s. index_result a at s)
unfolding suffixes_result
suffixes_index a at i env =
    ap (λ p. first (fold_nodes (λ p. verdict_of_option p.1 env) suffix_rules suffix_sort (Good a) (p ∷ []))) (suffix_verdict-Index at i)
    ∙ index_of a (expr_verdict i env false) at

pub suffixes_length : (a : Sort) (at : ℕ) (env : Environment) → suffixes_result a (x.Length at ∷ []) env ≡ length_result a at
unfolding suffixes_result
suffixes_length a at env =
    ap (λ p. first (fold_nodes (λ p. verdict_of_option p.1 env) suffix_rules suffix_sort (Good a) (p ∷ []))) (suffix_verdict-Length at)
    ∙ first_good_unless (length_rules at (is_array_sort a)) (plain Int)

-- ---- several expressions

pub exprs_none : (done : List Sort) (es : List Expr) (i : ℕ) (env : Environment) → length es ≤ i → exprs_result done (drop i es) env ≡ Ok done
unfolding exprs_result
exprs_none done es i env h = ap (λ l. exprs_result done l env) (drop_all i es h)

exprs_cons : (done : List Sort) (o : Expr) (es : List Expr) (env : Environment) → exprs_result done (o ∷ es) env ≡ and_then (first (expr_verdict o env false)) (λ s. exprs_result (done ++ s ∷ []) es env)
unfolding exprs_result
exprs_cons done o es env = fold_next (λ e. e env false) (λ p s. no_rules s) (λ p s. s.0 ++ s.1 ∷ []) done (expr_verdict o) (map expr_verdict es)

pub exprs_at : (done : List Sort) (es : List Expr) (i : ℕ) (o : Expr) (env : Environment) → i < length es → o ≡ get_or es i o → exprs_result done (drop i es) env ≡ and_then (first (expr_verdict o env false)) (λ s. exprs_result (done ++ s ∷ []) (drop (i + 1) es) env)
exprs_at done es i o env h e =
    ap (λ l. exprs_result done l env) (drop-cons es i o h ∙ ap (λ x. x ∷ drop (suc i) es) (sym e))
    ∙ exprs_cons done o (drop (suc i) es) env
    ∙ ap (λ n. and_then (first (expr_verdict o env false)) (λ s. exprs_result (done ++ s ∷ []) (drop n es) env)) (sym (add-one i))

pub exprs_all : (es : List Expr) (env : Environment) → exprs_result [] es env ≡ first (verdict_of_exprs (expr_verdicts es) env)
unfolding exprs_result
exprs_all es env = refl

-- ---- what may be missing

pub option_none : (env : Environment) → first (expr_verdict_if None env) ≡ Ok None
option_none env = refl

pub option_some : (a : Expr) (env : Environment) → first (expr_verdict_if (Some a) env) ≡ and_then (first (expr_verdict a env false)) (λ s. Ok (Some s))
option_some a env = first_map_verdict (expr_verdict a env false) Some

option_is : (o : Option Expr) (env : Environment) → verdict_of_option (option_map expr_verdict o) env ≡ expr_verdict_if o env
option_is None env = refl
option_is (Some a) env = refl

pub location_none : (env : Environment) → location_result None env ≡ Ok tt
unfolding location_result
location_none env = refl

location_is : (p : At) (env : Environment) → location_verdict (Some (at_verdict p)) env ≡ node (expr_verdict p.uan env false also expr_verdict_if p.ual env) (location_rules p.at) (λ s. tt)
location_is p env =
    ap (λ w. location_verdict (Some w) env) (at_verdict-At p)
    ∙ ap (λ v. node (expr_verdict p.uan env false also v) (location_rules p.at) (λ s. tt)) (option_is p.ual env)

location_end : (r : Result Sort Violation) (q : Result (Option Sort) Violation) (at : ℕ)
    → and_then r (λ a. and_then q (λ b. and_then (fine (location_rules at (a, b))) (λ u. Ok tt))) ≡ and_then r (λ a. and_then q (λ b. fine (location_rules at (a, b))))
location_end (Ok a) (Ok b) at = fine_unit (location_rules at (a, b))
location_end (Ok a) (Err v) at = refl
location_end (Err v) q at = refl

pub location_some : (p : At) (env : Environment) → location_result (Some p) env ≡ and_then (first (expr_verdict p.uan env false)) (λ a. and_then (first (expr_verdict_if p.ual env)) (λ b. fine (location_rules p.at (a, b))))
unfolding location_result
location_some p env =
    ap first (location_is p env)
    ∙ node2 (expr_verdict p.uan env false) (expr_verdict_if p.ual env) (location_rules p.at) (λ s. tt)
    ∙ location_end (first (expr_verdict p.uan env false)) (first (expr_verdict_if p.ual env)) p.at

pub ruleset equations = (first-Number, first-Str, first-Bool, first-Null, first-Me, first-Name, first-Own, first-Paren, first-Neg, first-Not, first-Level, first-Suffixed, first-Make, first-ListOf, first-ByName, first-New, level_none, level_one, suffixes_none, suffixes_index, suffixes_length, exprs_none, option_none, option_some, location_none, location_some)
