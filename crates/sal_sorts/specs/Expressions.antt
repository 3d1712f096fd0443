-- The verdict on an expression, from those on its parts.
use Rattle.std.specs.Prelude.{ℕ, Bool, true, false, not, ◌&&◌, ◌||◌, nat_eq, nat_le, if◌then◌else◌, List, ◌++◌, map, Option, Some, None}
use Rattle.std.specs.List.{list_all}
use Rattle.std.specs.Str.{bytes_eq}
use Rattle.sal_ast.specs.declared.program.Ident.{Ident}
use Rattle.sal_ast.specs.declared.program.BaseName.{BaseName}
use Rattle.sal_ast.specs.declared.program.BaseName.TheVariants as word
use Rattle.sal_ast.specs.declared.program.TypeName.{TypeName}
use Rattle.sal_ast.specs.declared.expression.Op.{Op}
use Rattle.sal_ast.specs.declared.expression.Op.TheVariants as op
use Rattle.sal_ast.specs.declared.expression.Expr.{Expr}
use Rattle.sal_ast.specs.declared.expression.Suffix.{Suffix}
use Rattle.sal_ast.specs.declared.expression.At.{At}
use Rattle.sal_ast.specs.declared.expression.Operand.{Operand}
use Rattle.sal_ast.specs.declared.expression.Expr.TheOpen.{Expr-F, Suffix-F, At-F, Operand-F}
use Rattle.sal_ast.specs.declared.expression.Expr.TheFolds.{fold-Expr, fold-Suffix, fold-At, fold-Operand}
use Rattle.sal_sorts.specs.declared.sort.Base.TheVariants.{Int, Boolean, Str, Actor, Void, Null}
use Rattle.sal_sorts.specs.declared.sort.Sort.{Sort}
use Rattle.sal_sorts.specs.declared.variable.Variable.{Variable}
use Rattle.sal_sorts.specs.Sorts.{plain, is_same_sort, is_int_sort, is_boolean_sort, is_text_sort, is_null_sort, is_printable_sort, is_array_sort, item_sort, sort_of_type}
use Rattle.sal_sorts.specs.Environments.{Environment, behavior_with_name, has_behavior, is_actor_sort, is_assignable, constructor_accepts, field_with_name, variable_with_name, is_handler}
use Rattle.sal_sorts.specs.Verdicts.{Violation, Verdict, Good, ◌also◌, good_unless, node, map_verdict, fold_nodes, verdict_of_all, rule}

-- What an expression is where it stands. The Bool says whether a prefix `-` stands directly before it.
abbrev pub ExprTyping : Type 0
ExprTyping = Environment → Bool → Verdict Sort

-- an index, or else `.length`, and the place of its sign
abbrev pub SuffixTyping : Type 0
SuffixTyping = ℕ × Option ExprTyping

-- `at` with its place and its texts
abbrev pub LocationTyping : Type 0
LocationTyping = ℕ × ExprTyping × Option ExprTyping

-- an operator, its place, and what stands behind it
abbrev pub OperandTyping : Type 0
OperandTyping = Op × ℕ × ExprTyping

-- all, from left to right
abbrev pub verdict_of_exprs : List ExprTyping → Environment → Verdict (List Sort)
verdict_of_exprs es env = verdict_of_all (λ e. e env false) es

-- one that may be missing
abbrev pub verdict_of_option : Option ExprTyping → Environment → Verdict (Option Sort)
verdict_of_option None env = Good None
verdict_of_option (Some e) env = map_verdict Some (e env false)

-- a rule on what may be missing
abbrev pub holds_if_some : (Sort → Bool) → Option Sort → Bool
holds_if_some holds None = true
holds_if_some holds (Some s) = holds s

-- ---- types

-- whether a base is one of the language, or a behaviour
abbrev pub is_known_base : BaseName → Environment → Bool
is_known_base (word.Actor name) env = has_behavior name env
is_known_base _ env = true

-- Y6: a type's name is no behaviour, or it has more than 8 pairs of brackets
unfoldable pub type_rules : TypeName → Environment → List Violation
type_rules t env = rule 6 t.at (is_known_base t.base env && nat_le t.dims 8)

-- a type, where it is written
unfoldable pub type_verdict : TypeName → Environment → Verdict Sort
type_verdict t env = good_unless (type_rules t env) (sort_of_type t)

-- ---- names

-- Y10: a name is no local, parameter, token or field in scope, or `this.f` no field
abbrev pub unknown_rules : ℕ → List Violation
unknown_rules at = rule 10 at false

-- Y11: a token's name stands elsewhere than as a whole argument or in `waitfor`, or `waitfor` names something else
abbrev pub token_rules : ℕ → Bool → List Violation
token_rules at fits = rule 11 at fits

-- the type of what a name stands for, where it may not be a token
abbrev pub variable_verdict : ℕ → Option Variable → Verdict Sort
variable_verdict at None = good_unless (unknown_rules at) (plain Void)
variable_verdict at (Some v) = good_unless (token_rules at (not v.is_token)) v.sort

-- ---- what a constructor and an initialiser forbid

-- Y7: in a constructor, a statement that is neither empty nor an assignment to a field; in a constructor or initialiser, an
-- actor's `new`, `self`, a reference by name
abbrev pub permission_rules : Bool → ℕ → List Violation
permission_rules allowed at = rule 7 at allowed

-- what only handlers may hold
abbrev pub handler_only_rules : Environment → ℕ → List Violation
handler_only_rules env at = permission_rules (is_handler env.member) at

-- ---- operators

-- two values that can be compared
abbrev pub are_comparable : Environment → Sort → Sort → Bool
are_comparable env a b = (is_same_sort a b && (is_printable_sort a || is_actor_sort env a)) || (is_null_sort a && is_actor_sort env b) || (is_null_sort b && is_actor_sort env a)

-- whether an operator takes these operands
unfoldable pub operands_fit : Environment → Op → Sort → Sort → Bool
operands_fit env op.Add a b = (is_int_sort a && is_int_sort b) || ((is_text_sort a || is_text_sort b) && is_printable_sort a && is_printable_sort b)
operands_fit env op.Or a b = is_boolean_sort a && is_boolean_sort b
operands_fit env op.And a b = is_boolean_sort a && is_boolean_sort b
operands_fit env op.Same a b = are_comparable env a b
operands_fit env op.Other a b = are_comparable env a b
operands_fit env _ a b = is_int_sort a && is_int_sort b

-- what it gives
unfoldable pub operator_sort : Op → Sort → Sort → Sort
operator_sort op.Add a b = if is_int_sort a && is_int_sort b then plain Int else plain Str
operator_sort op.Sub a b = plain Int
operator_sort op.Mul a b = plain Int
operator_sort op.Div a b = plain Int
operator_sort op.Rem a b = plain Int
operator_sort _ a b = plain Boolean

-- Y14: an operator's operands don't fit
abbrev pub operator_rules : ℕ → Bool → List Violation
operator_rules at fit = rule 14 at fit

-- operators of one level, from left to right: each is a node with what stands before it and behind it
abbrev pub level_verdict : Verdict Sort → List OperandTyping → Environment → Verdict Sort
level_verdict first ps env =
    fold_nodes (λ p. p.2 env false) (λ p s. operator_rules p.1 (operands_fit env p.0 s.0 s.1)) (λ p s. operator_sort p.0 s.0 s.1) first ps

-- ---- arrays

-- Y15: what is indexed is no array, or the index no int
abbrev pub index_rules : ℕ → Bool → List Violation
index_rules at fits = rule 15 at fits

-- Y16: `.length` of something that is no array
abbrev pub length_rules : ℕ → Bool → List Violation
length_rules at fits = rule 16 at fits

-- an index, or else `.length`
abbrev pub suffix_rules : SuffixTyping → Sort × Option Sort → List Violation
suffix_rules p (s, None) = length_rules p.0 (is_array_sort s)
suffix_rules p (s, Some i) = index_rules p.0 (is_array_sort s && is_int_sort i)

-- what an index or `.length` gives
abbrev pub suffix_sort : SuffixTyping → Sort × Option Sort → Sort
suffix_sort p (s, None) = plain Int
suffix_sort p (s, Some i) = item_sort s

-- indexes and `.length`, from left to right
abbrev pub suffixes_verdict : Verdict Sort → List SuffixTyping → Environment → Verdict Sort
suffixes_verdict first ps env = fold_nodes (λ p. verdict_of_option p.1 env) suffix_rules suffix_sort first ps

-- each of them to the same type
abbrev pub are_all_assignable : Environment → List Sort → Sort → Bool
are_all_assignable env values to = list_all (λ value. is_assignable env value to) values

-- Y18: an array's length is no int, or an item isn't assignable
abbrev pub array_rules : ℕ → Bool → List Violation
array_rules at fits = rule 18 at fits

-- ---- actors

-- Y19: an operand of `at` is no String
abbrev pub location_rules : ℕ → Sort × Option Sort → List Violation
location_rules at s = rule 19 at (is_text_sort s.0 && holds_if_some is_text_sort s.1)

-- where an actor is made, if it is said; it is a node of its own
abbrev pub location_verdict : Option LocationTyping → Environment → Verdict (Unit {0})
location_verdict None env = Good tt
location_verdict (Some p) env = node (p.1 env false also verdict_of_option p.2 env) (location_rules p.0) (λ s. tt)

-- Y17: `new B(..)`: no behaviour B, another number of arguments, or one isn't assignable
abbrev pub new_rules : ℕ → Ident → List Sort → Environment → List Violation
new_rules at b args env = rule 17 at (constructor_accepts (behavior_with_name b.text env) args env)

-- a cast, if there is one, has the name behind it
abbrev pub cast_fits : Option Ident → Ident → Bool
cast_fits None b = true
cast_fits (Some c) b = bytes_eq c.text b.text

-- Y20: by name: no such behaviour, no String, or the cast has another name
abbrev pub by_name_rules : Option Ident → Ident → Sort → Environment → List Violation
by_name_rules cast b name env = rule 20 b.at (has_behavior b.text env && is_text_sort name && cast_fits cast b)

-- ---- the forms of expressions

-- Y13: 2147483648 stands elsewhere than directly after a prefix `-`
abbrev pub number_rules : ℕ → ℕ → Bool → List Violation
number_rules n at minus = rule 13 at (minus || not (nat_eq n 2147483648))

-- the verdict on each form, made of those on its parts
abbrev pub expr_step : Expr-F ExprTyping SuffixTyping LocationTyping OperandTyping → ExprTyping
expr_step (Expr-F.Number n at) env minus = good_unless (number_rules n at minus) (plain Int)
expr_step (Expr-F.Str text at) env minus = Good (plain Str)
expr_step (Expr-F.Bool b at) env minus = Good (plain Boolean)
expr_step (Expr-F.Null at) env minus = Good (plain Null)
expr_step (Expr-F.Me at) env minus = good_unless (handler_only_rules env at) (plain (Actor env.own))
expr_step (Expr-F.Name name) env minus = variable_verdict name.at (variable_with_name name.text env)
expr_step (Expr-F.Own at name) env minus = variable_verdict name.at (field_with_name name.text env)
expr_step (Expr-F.Paren at e) env minus = e env false
expr_step (Expr-F.Neg at e) env minus = node (e env true) (λ s. operator_rules at (is_int_sort s)) (λ s. plain Int)
expr_step (Expr-F.Not at e) env minus = node (e env false) (λ s. operator_rules at (is_boolean_sort s)) (λ s. plain Boolean)
expr_step (Expr-F.Level first rest) env minus = level_verdict (first env false) rest env
expr_step (Expr-F.Suffixed first rest) env minus = suffixes_verdict (first env minus) rest env
expr_step (Expr-F.New at b args place) env minus =
    node (verdict_of_exprs args env also location_verdict place env) (λ s. handler_only_rules env at ++ new_rules at b s.0 env) (λ s. plain (Actor b.text))
expr_step (Expr-F.Make at t size) env minus =
    node (type_verdict t env also size env false) (λ s. array_rules at (is_int_sort s.1)) (λ s. s.0)
expr_step (Expr-F.ListOf at t items) env minus =
    node (type_verdict t env also verdict_of_exprs items env) (λ s. array_rules at (are_all_assignable env s.1 (item_sort s.0))) (λ s. s.0)
expr_step (Expr-F.ByName at cast b name) env minus =
    node (name env false) (λ s. handler_only_rules env at ++ by_name_rules cast b s env) (λ s. plain (Actor b.text))

-- an index, or `.length`
abbrev pub suffix_step : Suffix-F ExprTyping SuffixTyping LocationTyping OperandTyping → SuffixTyping
suffix_step (Suffix-F.Index at e) = (at, Some e)
suffix_step (Suffix-F.Length at) = (at, None)

-- `at`, with its texts
abbrev pub at_step : At-F ExprTyping SuffixTyping LocationTyping OperandTyping → LocationTyping
at_step p = (p.at, p.uan, p.ual)

-- an operator, with what stands behind it
abbrev pub operand_step : Operand-F ExprTyping SuffixTyping LocationTyping OperandTyping → OperandTyping
operand_step p = (p.op, p.at, p.value)

-- the verdict on an expression
unfoldable pub expr_verdict : Expr → ExprTyping
expr_verdict = fold-Expr ExprTyping SuffixTyping LocationTyping OperandTyping expr_step suffix_step at_step operand_step

-- the verdict on an index or of `.length`
unfoldable pub suffix_verdict : Suffix → SuffixTyping
suffix_verdict = fold-Suffix ExprTyping SuffixTyping LocationTyping OperandTyping expr_step suffix_step at_step operand_step

-- the verdict on `at`
unfoldable pub at_verdict : At → LocationTyping
at_verdict = fold-At ExprTyping SuffixTyping LocationTyping OperandTyping expr_step suffix_step at_step operand_step

-- the verdict on an operator and what stands behind it
unfoldable pub operand_verdict : Operand → OperandTyping
operand_verdict = fold-Operand ExprTyping SuffixTyping LocationTyping OperandTyping expr_step suffix_step at_step operand_step

-- the verdict on each
abbrev pub expr_verdicts : List Expr → List ExprTyping
expr_verdicts = map expr_verdict

-- an expression that may be missing
abbrev pub expr_verdict_if : Option Expr → Environment → Verdict (Option Sort)
expr_verdict_if None env = Good None
expr_verdict_if (Some e) env = map_verdict Some (expr_verdict e env false)
