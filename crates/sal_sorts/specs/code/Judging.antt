-- What the checker's loops and last steps answer, where the parts before are judged.
use Rattle.std.specs.Prelude.{ℕ, Bool, false, ◌&&◌, ◌++◌, List, [], ◌∷◌, map, Option, option_map, Result, Ok}
use Rattle.sal_ast.specs.declared.program.Ident.{Ident}
use Rattle.sal_ast.specs.declared.expression.Op.{Op}
use Rattle.sal_ast.specs.declared.expression.Expr.{Expr}
use Rattle.sal_ast.specs.declared.expression.Suffix.{Suffix}
use Rattle.sal_ast.specs.declared.expression.At.{At}
use Rattle.sal_ast.specs.declared.expression.Operand.{Operand}
use Rattle.sal_sorts.specs.declared.sort.Base.TheVariants.{Int, Actor}
use Rattle.sal_sorts.specs.declared.sort.Sort.{Sort}
use Rattle.sal_sorts.specs.Sorts.{plain, is_int_sort, is_array_sort, item_sort}
use Rattle.sal_sorts.specs.Environments.{Environment}
use Rattle.sal_sorts.specs.Verdicts.{Violation, Good, no_rules, fold_nodes}
use Rattle.sal_sorts.specs.Refusals.{first, fine, and_then}
use Rattle.sal_sorts.specs.Expressions.{operator_rules, operands_fit, operator_sort, level_verdict, suffixes_verdict, index_rules, length_rules, location_verdict, handler_only_rules, new_rules, by_name_rules, array_rules, expr_verdict, operand_verdict, suffix_verdict, at_verdict}

-- operators from here on
unfoldable pub level_result : Sort → List Operand → Environment → Result Sort Violation
level_result left rest env = first (level_verdict (Good left) (map operand_verdict rest) env)

-- one operator
abbrev pub operator_result : Environment → Op → ℕ → Sort → Sort → Result Sort Violation
operator_result env op at a b = and_then (fine (operator_rules at (operands_fit env op a b))) (λ u. Ok (operator_sort op a b))

-- indexes and `.length` from here on
unfoldable pub suffixes_result : Sort → List Suffix → Environment → Result Sort Violation
suffixes_result left rest env = first (suffixes_verdict (Good left) (map suffix_verdict rest) env)

-- an index
abbrev pub index_result : Sort → ℕ → Sort → Result Sort Violation
index_result a at index = and_then (fine (index_rules at (is_array_sort a && is_int_sort index))) (λ u. Ok (item_sort a))

-- `.length`
abbrev pub length_result : Sort → ℕ → Result Sort Violation
length_result a at = and_then (fine (length_rules at (is_array_sort a))) (λ u. Ok (plain Int))

-- expressions from here on
unfoldable pub exprs_result : List Sort → List Expr → Environment → Result (List Sort) Violation
exprs_result done es env = first (fold_nodes (λ e. e env false) (λ p s. no_rules s) (λ p s. s.0 ++ s.1 ∷ []) (Good done) (map expr_verdict es))

-- where an actor is made, if it is said
unfoldable pub location_result : Option At → Environment → Result (Unit {0}) Violation
location_result place env = first (location_verdict (option_map at_verdict place) env)

-- an actor's `new`, once its parts are judged
abbrev pub new_result : ℕ → Ident → List Sort → Environment → Result Sort Violation
new_result at b args env = and_then (fine (handler_only_rules env at ++ new_rules at b args env)) (λ u. Ok (plain (Actor b.text)))

-- a reference by name, once the name is judged
abbrev pub by_name_result : ℕ → Option Ident → Ident → Sort → Environment → Result Sort Violation
by_name_result at cast b name env = and_then (fine (handler_only_rules env at ++ by_name_rules cast b name env)) (λ u. Ok (plain (Actor b.text)))

-- a `new` of an array, once its parts are judged
abbrev pub array_result : ℕ → Bool → Sort → Result Sort Violation
array_result at fits s = and_then (fine (array_rules at fits)) (λ u. Ok s)
