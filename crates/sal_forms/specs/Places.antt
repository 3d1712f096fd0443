-- Whether a program names places: whether a `new` with `at`, or a `getReferenceByName`, stands anywhere in its tree. Each form
-- names one where one of its parts does, and those two always do.
use Rattle.std.specs.Prelude.{Bool, true, false, ◌||◌, List, Option, Some, None, option_map}
use Rattle.std.specs.List.{list_any}
use Rattle.sal_ast.specs.declared.expression.Expr.{Expr}
use Rattle.sal_ast.specs.declared.expression.Suffix.{Suffix}
use Rattle.sal_ast.specs.declared.expression.At.{At}
use Rattle.sal_ast.specs.declared.expression.Operand.{Operand}
use Rattle.sal_ast.specs.declared.expression.Expr.TheOpen.{Expr-F, Suffix-F, At-F, Operand-F}
use Rattle.sal_ast.specs.declared.expression.Expr.TheFolds.{fold-Expr, fold-Suffix, fold-At, fold-Operand}
use Rattle.sal_ast.specs.declared.statement.Declare.{Declare}
use Rattle.sal_ast.specs.declared.statement.Assign.{Assign}
use Rattle.sal_ast.specs.declared.statement.ForInit.{ForInit}
use Rattle.sal_ast.specs.declared.statement.ForInit.TheVariants as init
use Rattle.sal_ast.specs.declared.statement.Aim.{Aim}
use Rattle.sal_ast.specs.declared.statement.Aim.TheVariants as aim
use Rattle.sal_ast.specs.declared.statement.Send.{Send}
use Rattle.sal_ast.specs.declared.statement.Arg.{Arg}
use Rattle.sal_ast.specs.declared.statement.Arg.TheVariants as arg
use Rattle.sal_ast.specs.declared.statement.Property.{Property}
use Rattle.sal_ast.specs.declared.statement.Property.TheVariants as property
use Rattle.sal_ast.specs.declared.statement.Stage.{Stage}
use Rattle.sal_ast.specs.declared.statement.Stmt.{Stmt}
use Rattle.sal_ast.specs.declared.statement.Chain.{Chain}
use Rattle.sal_ast.specs.declared.statement.Stage.TheOpen.{Stage-F, Stmt-F, Chain-F}
use Rattle.sal_ast.specs.declared.statement.Stage.TheFolds.{fold-Stage, fold-Stmt, fold-Chain}
use Rattle.sal_ast.specs.declared.program.Program.{Program}
use Rattle.sal_ast.specs.declared.program.Behavior.{Behavior}
use Rattle.sal_ast.specs.declared.program.Member.{Member}
use Rattle.sal_ast.specs.declared.program.Member.TheVariants as member

-- ---- expressions

abbrev pub any_true : List Bool → Bool
any_true bs = list_any (λ b. b) bs

-- of a part that may be missing
abbrev pub or_false : Option Bool → Bool
or_false None = false
or_false (Some b) = b

-- whether an expression names places, from whether its parts do
abbrev pub expr_step : Expr-F Bool Bool Bool Bool → Bool
-- Number | Str | "true" | "false" | "null" | "self" | Id | "this" "." Id
expr_step (Expr-F.Number n at) = false
expr_step (Expr-F.Str text at) = false
expr_step (Expr-F.Bool b at) = false
expr_step (Expr-F.Null at) = false
expr_step (Expr-F.Me at) = false
expr_step (Expr-F.Name name) = false
expr_step (Expr-F.Own at name) = false
-- "(" expr ")"
expr_step (Expr-F.Paren at x) = x
-- ( "-" | "!" ) unary
expr_step (Expr-F.Neg at x) = x
expr_step (Expr-F.Not at x) = x
-- operands with operators between them
expr_step (Expr-F.Level first rest) = first || any_true rest
-- primary { "[" expr "]" | "." "length" }
expr_step (Expr-F.Suffixed first rest) = first || any_true rest
-- "new" Id "(" [ expr { "," expr } ] ")" [ "at" "(" expr [ "," expr ] ")" ]
expr_step (Expr-F.New at behavior args place) = or_false place || any_true args
-- "new" base "[" expr "]" { "[" "]" }
expr_step (Expr-F.Make at sort size) = size
-- "new" base "[" "]" { "[" "]" } "{" [ expr { "," expr } ] "}"
expr_step (Expr-F.ListOf at sort items) = any_true items
-- [ "(" Id ")" ] Id "." "getReferenceByName" "(" expr ")"
expr_step (Expr-F.ByName at cast behavior name) = true

abbrev pub suffix_step : Suffix-F Bool Bool Bool Bool → Bool
-- "[" expr "]" | "." "length"
suffix_step (Suffix-F.Index at x) = x
suffix_step (Suffix-F.Length at) = false

-- "at" "(" expr [ "," expr ] ")", whatever its texts are
abbrev pub at_step : At-F Bool Bool Bool Bool → Bool
at_step p = true

abbrev pub operand_step : Operand-F Bool Bool Bool Bool → Bool
operand_step o = o.value

unfoldable pub expr_names_places : Expr → Bool
expr_names_places = fold-Expr Bool Bool Bool Bool expr_step suffix_step at_step operand_step

unfoldable pub suffix_names_places : Suffix → Bool
suffix_names_places = fold-Suffix Bool Bool Bool Bool expr_step suffix_step at_step operand_step

unfoldable pub at_names_places : At → Bool
at_names_places = fold-At Bool Bool Bool Bool expr_step suffix_step at_step operand_step

unfoldable pub operand_names_places : Operand → Bool
operand_names_places = fold-Operand Bool Bool Bool Bool expr_step suffix_step at_step operand_step

-- ---- parts of statements

abbrev pub option_names_places : Option Expr → Bool
option_names_places x = or_false (option_map expr_names_places x)

-- type Id [ "=" expr ]
abbrev pub declare_names_places : Declare → Bool
declare_names_places d = option_names_places d.init

-- ( Id | "this" "." Id ) { "[" expr "]" } "=" expr
abbrev pub assign_names_places : Assign → Bool
assign_names_places a = list_any expr_names_places a.indexes || expr_names_places a.value

-- [ decl | assign ]
abbrev pub init_names_places : ForInit → Bool
init_names_places init.Nothing = false
init_names_places (init.Declare d) = declare_names_places d
init_names_places (init.Assign a) = assign_names_places a

-- [ assign ]
abbrev pub next_names_places : Option Assign → Bool
next_names_places a = or_false (option_map assign_names_places a)

-- "standardOutput" | postfix
abbrev pub aim_names_places : Aim → Bool
aim_names_places aim.Own = false
aim_names_places (aim.Output at) = false
aim_names_places (aim.Actor x) = expr_names_places x

-- "token" | expr
abbrev pub arg_names_places : Arg → Bool
arg_names_places (arg.Token at) = false
arg_names_places (arg.Expr x) = expr_names_places x

-- ":" "delay" "(" expr ")" | ":" "waitfor" "(" Id { "," Id } ")"
abbrev pub property_names_places : Property → Bool
property_names_places (property.Delay at time) = expr_names_places time
property_names_places (property.WaitFor at names) = false

-- [ target "<-" ] Id "(" [ arg { "," arg } ] ")" { property }
unfoldable pub send_names_places : Send → Bool
send_names_places m = aim_names_places m.aim || list_any arg_names_places m.args || list_any property_names_places m.properties

-- ---- statements

abbrev pub stage_step : Stage-F Bool Bool Bool → Bool
-- message | "join" block
stage_step (Stage-F.Message m) = send_names_places m
stage_step (Stage-F.Join at body) = any_true body

-- stage { "@" stage }
abbrev pub chain_step : Chain-F Bool Bool Bool → Bool
chain_step c = any_true c.stages

-- whether a statement names places, from whether its parts do
abbrev pub stmt_step : Stmt-F Bool Bool Bool → Bool
-- ";" | block | decl ";" | assign ";"
stmt_step (Stmt-F.Empty at) = false
stmt_step (Stmt-F.Block at list) = any_true list
stmt_step (Stmt-F.Declare d) = declare_names_places d
stmt_step (Stmt-F.Assign a) = assign_names_places a
-- "if" "(" expr ")" stmt [ "else" stmt ]
stmt_step (Stmt-F.If at test first second) = expr_names_places test || first || or_false second
-- "while" "(" expr ")" stmt
stmt_step (Stmt-F.While at test body) = expr_names_places test || body
-- "for" "(" [ decl | assign ] ";" [ expr ] ";" [ assign ] ")" stmt
stmt_step (Stmt-F.For at first test next body) = init_names_places first || option_names_places test || next_names_places next || body
-- "return" [ expr ] ";"
stmt_step (Stmt-F.Return at value) = option_names_places value
-- "token" Id "=" chain ";" | chain [ "@" "currentContinuation" ] ";"
stmt_step (Stmt-F.Token at name chain) = chain
stmt_step (Stmt-F.Chain chain passed) = chain

unfoldable pub stage_names_places : Stage → Bool
stage_names_places = fold-Stage Bool Bool Bool stage_step stmt_step chain_step

unfoldable pub stmt_names_places : Stmt → Bool
stmt_names_places = fold-Stmt Bool Bool Bool stage_step stmt_step chain_step

unfoldable pub chain_names_places : Chain → Bool
chain_names_places = fold-Chain Bool Bool Bool stage_step stmt_step chain_step

-- ---- programs

abbrev pub member_names_places : Member → Bool
member_names_places (member.Field sort name init) = option_names_places init
member_names_places (member.Constructor name params body) = list_any stmt_names_places body
member_names_places (member.Handler result name params body) = list_any stmt_names_places body

abbrev pub behavior_names_places : Behavior → Bool
behavior_names_places b = list_any member_names_places b.members

unfoldable pub names_places : Program → Bool
names_places p = list_any behavior_names_places p.behaviors
