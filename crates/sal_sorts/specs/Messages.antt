-- The verdict on a message.
use Rattle.std.specs.Prelude.{ℕ, Bool, true, false, ◌&&◌, ◌||◌, is_some, nat_eq, nat_le, if◌then◌else◌, List, [], ◌∷◌, ◌++◌, length, codes, Option, Some, None}
use Rattle.std.specs.Str.{bytes_eq}
use Rattle.sal_ast.specs.declared.program.Ident.{Ident}
use Rattle.sal_ast.specs.declared.expression.Expr.{Expr, out-Expr}
use Rattle.sal_ast.specs.declared.expression.Suffix.{Suffix}
use Rattle.sal_ast.specs.declared.expression.At.{At}
use Rattle.sal_ast.specs.declared.expression.Operand.{Operand}
use Rattle.sal_ast.specs.declared.expression.Expr.TheOpen.{Expr-F}
use Rattle.sal_ast.specs.declared.statement.Aim.{Aim}
use Rattle.sal_ast.specs.declared.statement.Aim.TheVariants as aim
use Rattle.sal_ast.specs.declared.statement.Arg.{Arg}
use Rattle.sal_ast.specs.declared.statement.Arg.TheVariants as arg
use Rattle.sal_ast.specs.declared.statement.Property.{Property}
use Rattle.sal_ast.specs.declared.statement.Property.TheVariants as property
use Rattle.sal_ast.specs.declared.statement.Send.{Send}
use Rattle.sal_sorts.specs.declared.sort.Base.{Base}
use Rattle.sal_sorts.specs.declared.sort.Base.TheVariants.{Actor, Void}
use Rattle.sal_sorts.specs.declared.sort.Sort.{Sort}
use Rattle.sal_sorts.specs.declared.variable.Variable.{Variable}
use Rattle.sal_sorts.specs.Sorts.{plain, is_int_sort, is_printable_sort}
use Rattle.sal_sorts.specs.Environments.{Environment, HandlerType, behavior_with_name, is_actor_sort, is_assignable, handler_with_name, local_with_name, variable_with_name}
use Rattle.sal_sorts.specs.Verdicts.{Violation, Verdict, Good, ◌also◌, good_unless, node, map_verdict, verdict_of_all, rule}
use Rattle.sal_sorts.specs.Expressions.{unknown_rules, token_rules, expr_verdict}
use Rattle.sal_sorts.specs.Starts.{arg_start, message_start}

-- the type, or void where there is none
abbrev pub or_void : Option Sort → Sort
or_void None = plain Void
or_void (Some s) = s

-- ---- arguments

-- Y27: `token` in a chain's first stage
abbrev pub first_stage_rules : ℕ → Option Sort → List Violation
first_stage_rules at before = rule 27 at (is_some before)

-- the local that an expression names, if it is no more than a name
abbrev pub local_of_expr : Expr-F Expr Suffix At Operand → Environment → Option Variable
local_of_expr (Expr-F.Name name) env = local_with_name name.text env
local_of_expr _ env = None

-- a local as it is, so also a token; of other expressions the verdict on them
abbrev pub local_or_verdict : Option Variable → Verdict Sort → Verdict Sort
local_or_verdict (Some v) other = Good v.sort
local_or_verdict None other = other

-- an argument, behind a stage with this result
abbrev pub arg_verdict : Environment → Option Sort → Arg → Verdict Sort
arg_verdict env before (arg.Token at) = good_unless (first_stage_rules at before) (or_void before)
arg_verdict env before (arg.Expr e) = local_or_verdict (local_of_expr (out-Expr e) env) (expr_verdict e env false)

-- ---- properties

-- Y28: a property occurs a second time, or a delay is no int
abbrev pub property_rules : ℕ → Bool → List Violation
property_rules at fits = rule 28 at fits

-- what `waitfor` names
abbrev pub waitfor_rules : ℕ → Option Variable → List Violation
waitfor_rules at None = unknown_rules at
waitfor_rules at (Some v) = token_rules at v.is_token

-- a name in `waitfor`, which is a node of its own
abbrev pub waitfor_verdict : Environment → Ident → Verdict (Unit {0})
waitfor_verdict env name = good_unless (waitfor_rules name.at (variable_with_name name.text env)) tt

-- a property
abbrev pub property_verdict : Environment → Property → Verdict (Unit {0})
property_verdict env (property.Delay at time) = node (expr_verdict time env false) (λ s. property_rules at (is_int_sort s)) (λ s. tt)
property_verdict env (property.WaitFor at names) = map_verdict (λ us. tt) (verdict_of_all (waitfor_verdict env) names)

-- the place of the first property that occurs a second time, where a delay or a `waitfor` may have occurred
abbrev pub repetition_offset : Bool → Bool → List Property → Option ℕ
repetition_offset delays waits [] = None
repetition_offset delays waits (property.Delay at time ∷ ps) = if delays then Some at else repetition_offset true waits ps
repetition_offset delays waits (property.WaitFor at names ∷ ps) = if waits then Some at else repetition_offset delays true ps

-- the rule of a property that occurs a second time
abbrev pub repetition_rules : Option ℕ → List Violation
repetition_rules None = []
repetition_rules (Some at) = property_rules at false

-- ---- targets

-- the type of the target; the output has none
abbrev pub aim_verdict : Aim → Environment → Verdict (Option Sort)
aim_verdict aim.Own env = Good (Some (plain (Actor env.own)))
aim_verdict (aim.Output at) env = Good None
aim_verdict (aim.Actor e) env = map_verdict Some (expr_verdict e env false)

-- Y24: a target isn't of a behaviour type
abbrev pub target_rules : Send → List Violation
target_rules m = rule 24 (message_start m) false

-- Y25: the target has no such handler, or it takes another number of arguments
abbrev pub handler_rules : Send → List Violation
handler_rules m = rule 25 m.handler.at false

-- Y26: an argument isn't assignable, or is a void token; for `print` and `println`, is no String, int or boolean
abbrev pub argument_rules : Arg → Bool → List Violation
argument_rules a fits = rule 26 (arg_start a) fits

-- the first argument that doesn't fit
abbrev pub first_misfit_rules : Environment → List Arg → List Sort → List Sort → List Violation
first_misfit_rules env (a ∷ more) (s ∷ ss) (t ∷ ts) = if is_assignable env s t then first_misfit_rules env more ss ts else argument_rules a false
first_misfit_rules env _ _ _ = []

-- ---- messages to actors

-- the handler of this name of a behaviour's base
abbrev pub handler_of_base : List ℕ → Base → Environment → Option HandlerType
handler_of_base handler (Actor name) env = handler_with_name handler (behavior_with_name name env)
handler_of_base handler _ env = None

-- the handler that is called of an actor of this type
abbrev pub called_handler : Send → Sort → Environment → Option HandlerType
called_handler m target env = handler_of_base m.handler.text target.base env

-- the rules of a message to a handler that takes these
abbrev pub params_rules : List Sort → Send → List Sort → Environment → List Violation
params_rules params m args env = if nat_eq (length params) (length args) then first_misfit_rules env m.args args params else handler_rules m

-- the rules of a message to this handler, if there is one
abbrev pub call_rules : Option HandlerType → Send → List Sort → Environment → List Violation
call_rules None m args env = handler_rules m
call_rules (Some h) m args env = params_rules h.params m args env

-- the rules of a message to a value of this type
abbrev pub actor_rules : Send → Sort → List Sort → Environment → List Violation
actor_rules m target args env = if is_actor_sort env target then call_rules (called_handler m target env) m args env else target_rules m

-- what a handler gives; where there is none, void
abbrev pub call_result : Option HandlerType → Sort
call_result None = plain Void
call_result (Some h) = h.result

-- ---- messages to the output

-- `print` or `println`
unfoldable pub is_print : List ℕ → Bool
is_print name = bytes_eq name (codes "print") || bytes_eq name (codes "println")

-- the rule of what is printed
abbrev pub print_rules : List Arg → List Sort → List Violation
print_rules (a ∷ more) (s ∷ ss) = argument_rules a (is_printable_sort s)
print_rules _ _ = []

-- the rules of a message to the output
abbrev pub output_rules : Send → List Sort → List Violation
output_rules m args = if is_print m.handler.text && nat_le (length args) 1 then print_rules m.args args else handler_rules m

-- ---- the whole message

-- the rules of a message
abbrev pub send_rules : Send → Option Sort → List Sort → Environment → List Violation
send_rules m None args env = output_rules m args
send_rules m (Some target) args env = actor_rules m target args env

-- what it replies
abbrev pub reply_sort : Send → Option Sort → Environment → Sort
reply_sort m None env = plain Void
reply_sort m (Some target) env = call_result (called_handler m target env)

-- a message, behind a stage with this result; its own result is its handler's
unfoldable pub message_verdict : Send → Environment → Option Sort → Verdict Sort
message_verdict m env before =
    node (aim_verdict m.aim env also verdict_of_all (arg_verdict env before) m.args also verdict_of_all (property_verdict env) m.properties)
    (λ p. send_rules m p.0.0 p.0.1 env ++ repetition_rules (repetition_offset false false m.properties))
    (λ p. reply_sort m p.0.0 env)
