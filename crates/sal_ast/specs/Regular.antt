-- Which trees are regular: each part stands where the grammar allows it.
use Rattle.std.specs.Prelude.{ℕ, suc, Bool, true, false, not, ◌&&◌, nat_eq, nat_le, List, [], ◌∷◌, map, Option, Some, None, option_map}
use Rattle.std.specs.List.{list_all}
use Rattle.sal_ast.specs.declared.expression.Op.{Op}
use Rattle.sal_ast.specs.declared.expression.Op.TheVariants as op
use Rattle.sal_ast.specs.declared.expression.Expr.{Expr}
use Rattle.sal_ast.specs.declared.expression.Suffix.{Suffix}
use Rattle.sal_ast.specs.declared.expression.At.{At}
use Rattle.sal_ast.specs.declared.expression.Operand.{Operand}
use Rattle.sal_ast.specs.declared.expression.Expr.TheOpen.{Expr-F, Suffix-F, At-F, Operand-F}
use Rattle.sal_ast.specs.declared.expression.Expr.TheFolds.{fold-Expr, fold-Suffix, fold-At, fold-Operand}
use Rattle.sal_ast.specs.declared.statement.Declare.{Declare}
use Rattle.sal_ast.specs.declared.statement.Assign.{Assign}
use Rattle.sal_ast.specs.declared.statement.ForInit.{ForInit}
use Rattle.sal_ast.specs.declared.statement.ForInit.TheVariants as init
use Rattle.sal_ast.specs.declared.statement.Aim.{Aim}
use Rattle.sal_ast.specs.declared.statement.Aim.TheVariants as aim
use Rattle.sal_ast.specs.declared.statement.Send.{Send}
use Rattle.sal_ast.specs.declared.statement.Arg.{Arg}
use Rattle.sal_ast.specs.declared.statement.Arg.TheVariants as arg
use Rattle.sal_ast.specs.declared.statement.Property.{Property}
use Rattle.sal_ast.specs.declared.statement.Property.TheVariants as property
use Rattle.sal_ast.specs.declared.statement.Stage.{Stage}
use Rattle.sal_ast.specs.declared.statement.Stmt.{Stmt}
use Rattle.sal_ast.specs.declared.statement.Chain.{Chain}
use Rattle.sal_ast.specs.declared.statement.Stage.TheOpen.{Stage-F, Stmt-F, Chain-F}
use Rattle.sal_ast.specs.declared.statement.Stage.TheFolds.{fold-Stage, fold-Stmt, fold-Chain}
use Rattle.sal_ast.specs.declared.program.Ident.{Ident}
use Rattle.sal_ast.specs.declared.program.Program.{Program}
use Rattle.sal_ast.specs.declared.program.Behavior.{Behavior}
use Rattle.sal_ast.specs.declared.program.Member.{Member}
use Rattle.sal_ast.specs.declared.program.Member.TheVariants as member

-- ---- expressions

-- What an expression is, from the loosest to the tightest: 0 to 5 have operators of this rank at their top.
-- expr = and { "||" and }
-- and = equal { "&&" equal }
-- equal = rel { ( "==" | "!=" ) rel }
-- rel = sum { ( "<" | "<=" | ">" | ">=" ) sum }
-- sum = term { ( "+" | "-" ) term }
-- term = unary { ( "*" | "/" | "%" ) unary }
abbrev pub rank_of : Op → ℕ
rank_of op.Or = 0
rank_of op.And = 1
rank_of op.Same = 2
rank_of op.Other = 2
rank_of op.Less = 3
rank_of op.LessEq = 3
rank_of op.Greater = 3
rank_of op.GreaterEq = 3
rank_of op.Add = 4
rank_of op.Sub = 4
rank_of op.Mul = 5
rank_of op.Div = 5
rank_of op.Rem = 5

-- unary = ( "-" | "!" ) unary | postfix
abbrev pub unary : ℕ
unary = 6

-- postfix = primary { "[" expr "]" | "." "length" } | newarray
abbrev pub postfix : ℕ
postfix = 7

abbrev pub primary : ℕ
primary = 8

-- the rank of an expression, and whether each part of it stands where it may
pub record Shape : Type 0 where
  pub rank : ℕ
  pub regular : Bool

abbrev pub shape : ℕ → Bool → Shape
shape rank regular = record { rank = rank; regular = regular }

-- a regular expression of this rank or a tighter one
abbrev pub has_rank : ℕ → Shape → Bool
has_rank rank x = nat_le rank x.rank && x.regular

-- an operator's rank, with the operand after it
pub record RankedOperand : Type 0 where
  pub rank : ℕ
  pub value : Shape

-- an operator of this rank, whose operand is tighter
abbrev pub is_operand_at : ℕ → RankedOperand → Bool
is_operand_at rank p = nat_eq p.rank rank && has_rank (suc rank) p.value

abbrev pub all_true : List Bool → Bool
all_true [] = true
all_true (b ∷ bs) = b && all_true bs

abbrev pub all_regular : List Shape → Bool
all_regular [] = true
all_regular (x ∷ xs) = x.regular && all_regular xs

abbrev pub or_true : Option Bool → Bool
or_true None = true
or_true (Some b) = b

-- without a cast the behaviour's identifier is the first token
abbrev pub first_place : ℕ → Option Ident → Ident → Bool
first_place at None behavior = nat_eq at behavior.at
first_place at (Some name) behavior = true

-- an operand, then at least one operator, all of one rank
abbrev pub level_shape : Shape → List RankedOperand → Shape
level_shape first [] = shape primary false
level_shape first (p ∷ ps) = shape p.rank (has_rank (suc p.rank) first && list_all (is_operand_at p.rank) (p ∷ ps))

-- a primary expression, then at least one index or `.length`
abbrev pub suffixed_shape : Shape → List Bool → Shape
suffixed_shape first [] = shape primary false
suffixed_shape first (b ∷ bs) = shape postfix (has_rank primary first && all_true (b ∷ bs))

-- an expression, from the shapes of its parts
abbrev pub shape_step : Expr-F Shape Bool Bool RankedOperand → Shape
-- Number | Str | "true" | "false" | "null" | "self" | Id | "this" "." Id
shape_step (Expr-F.Number n at) = shape primary true
shape_step (Expr-F.Str text at) = shape primary true
shape_step (Expr-F.Bool b at) = shape primary true
shape_step (Expr-F.Null at) = shape primary true
shape_step (Expr-F.Me at) = shape primary true
shape_step (Expr-F.Name name) = shape primary true
shape_step (Expr-F.Own at name) = shape primary true
-- "(" expr ")"
shape_step (Expr-F.Paren at x) = shape primary x.regular
-- ( "-" | "!" ) unary
shape_step (Expr-F.Neg at x) = shape unary (has_rank unary x)
shape_step (Expr-F.Not at x) = shape unary (has_rank unary x)
-- an operand { operator operand }
shape_step (Expr-F.Level first rest) = level_shape first rest
-- primary { "[" expr "]" | "." "length" }
shape_step (Expr-F.Suffixed first rest) = suffixed_shape first rest
-- "new" Id "(" [ expr { "," expr } ] ")" [ "at" "(" expr [ "," expr ] ")" ]
shape_step (Expr-F.New at behavior args place) = shape primary (all_regular args && or_true place)
-- "new" base "[" expr "]" { "[" "]" }
shape_step (Expr-F.Make at sort size) = shape postfix (nat_le 1 sort.dims && size.regular)
-- "new" base "[" "]" { "[" "]" } "{" [ expr { "," expr } ] "}"
shape_step (Expr-F.ListOf at sort items) = shape postfix (nat_le 1 sort.dims && all_regular items)
-- [ "(" Id ")" ] Id "." "getReferenceByName" "(" expr ")"
shape_step (Expr-F.ByName at cast behavior name) = shape primary (first_place at cast behavior && name.regular)

-- "[" expr "]" | "." "length"
abbrev pub suffix_step : Suffix-F Shape Bool Bool RankedOperand → Bool
suffix_step (Suffix-F.Index at x) = x.regular
suffix_step (Suffix-F.Length at) = true

-- "at" "(" expr [ "," expr ] ")"
abbrev pub at_step : At-F Shape Bool Bool RankedOperand → Bool
at_step p = p.uan.regular && or_true (option_map (λ (x : Shape). x.regular) p.ual)

abbrev pub operand_step : Operand-F Shape Bool Bool RankedOperand → RankedOperand
operand_step o = record { rank = rank_of o.op; value = o.value }

unfoldable pub shape_of : Expr → Shape
shape_of = fold-Expr Shape Bool Bool RankedOperand shape_step suffix_step at_step operand_step

unfoldable pub suffix_is_regular : Suffix → Bool
suffix_is_regular = fold-Suffix Shape Bool Bool RankedOperand shape_step suffix_step at_step operand_step

unfoldable pub at_is_regular : At → Bool
at_is_regular = fold-At Shape Bool Bool RankedOperand shape_step suffix_step at_step operand_step

unfoldable pub ranked_operand : Operand → RankedOperand
ranked_operand = fold-Operand Shape Bool Bool RankedOperand shape_step suffix_step at_step operand_step

abbrev pub expr_is_regular : Expr → Bool
expr_is_regular x = (shape_of x).regular

-- [ expr ]
abbrev pub option_is_regular : Option Expr → Bool
option_is_regular x = or_true (option_map expr_is_regular x)

-- ---- statements

-- type Id [ "=" expr ]
abbrev pub declare_is_regular : Declare → Bool
declare_is_regular d = option_is_regular d.init

-- ( Id | "this" "." Id ) { "[" expr "]" } "=" expr
abbrev pub assign_is_regular : Assign → Bool
assign_is_regular a = list_all expr_is_regular a.indexes && expr_is_regular a.value

-- [ decl | assign ]
abbrev pub init_is_regular : ForInit → Bool
init_is_regular init.Nothing = true
init_is_regular (init.Declare d) = declare_is_regular d
init_is_regular (init.Assign a) = assign_is_regular a

-- "standardOutput" | postfix
abbrev pub aim_is_regular : Aim → Bool
aim_is_regular aim.Own = true
aim_is_regular (aim.Output at) = true
aim_is_regular (aim.Actor x) = has_rank postfix (shape_of x)

-- "token" | expr
abbrev pub arg_is_regular : Arg → Bool
arg_is_regular (arg.Token at) = true
arg_is_regular (arg.Expr x) = expr_is_regular x

abbrev pub has_any : {A : Type 0} → List A → Bool
has_any [] = false
has_any (x ∷ xs) = true

-- ":" "delay" "(" expr ")" | ":" "waitfor" "(" Id { "," Id } ")"
abbrev pub property_is_regular : Property → Bool
property_is_regular (property.Delay at time) = expr_is_regular time
property_is_regular (property.WaitFor at names) = has_any names

-- [ target "<-" ] Id "(" [ arg { "," arg } ] ")" { property }
unfoldable pub send_is_regular : Send → Bool
send_is_regular m = aim_is_regular m.aim && list_all arg_is_regular m.args && list_all property_is_regular m.properties

-- whether each part of a statement stands where it may, and whether an `else` after it would belong to it
pub record Form : Type 0 where
  pub regular : Bool
  pub takes_else : Bool

abbrev pub form : Bool → Bool → Form
form regular takes_else = record { regular = regular; takes_else = takes_else }

abbrev pub all_forms_regular : List Form → Bool
all_forms_regular [] = true
all_forms_regular (s ∷ ss) = s.regular && all_forms_regular ss

-- "if" "(" expr ")" stmt [ "else" stmt ], where with an `else` the first statement takes none
abbrev pub if_form : Bool → Form → Option Form → Form
if_form test first None = form (test && first.regular) true
if_form test first (Some second) = form (test && first.regular && not first.takes_else && second.regular) second.takes_else

abbrev pub stage_step : Stage-F Bool Form Bool → Bool
-- message | "join" block
stage_step (Stage-F.Message m) = send_is_regular m
stage_step (Stage-F.Join at body) = all_forms_regular body

-- stage { "@" stage }
abbrev pub chain_step : Chain-F Bool Form Bool → Bool
chain_step c = has_any c.stages && all_true c.stages

-- a statement, from the forms of its parts
abbrev pub stmt_step : Stmt-F Bool Form Bool → Form
-- ";" | block | decl ";" | assign ";"
stmt_step (Stmt-F.Empty at) = form true false
stmt_step (Stmt-F.Block at list) = form (all_forms_regular list) false
stmt_step (Stmt-F.Declare d) = form (declare_is_regular d) false
stmt_step (Stmt-F.Assign a) = form (assign_is_regular a) false
-- "if" "(" expr ")" stmt [ "else" stmt ]
stmt_step (Stmt-F.If at test first second) = if_form (expr_is_regular test) first second
-- "while" "(" expr ")" stmt
stmt_step (Stmt-F.While at test body) = form (expr_is_regular test && body.regular) body.takes_else
-- "for" "(" [ decl | assign ] ";" [ expr ] ";" [ assign ] ")" stmt
stmt_step (Stmt-F.For at first test next body) =
    form (init_is_regular first && option_is_regular test && or_true (option_map assign_is_regular next) && body.regular) body.takes_else
-- "return" [ expr ] ";"
stmt_step (Stmt-F.Return at value) = form (option_is_regular value) false
-- "token" Id "=" chain ";"
stmt_step (Stmt-F.Token at name chain) = form chain false
-- chain [ "@" "currentContinuation" ] ";"
stmt_step (Stmt-F.Chain chain passed) = form chain false

unfoldable pub stage_is_regular : Stage → Bool
stage_is_regular = fold-Stage Bool Form Bool stage_step stmt_step chain_step

unfoldable pub form_of : Stmt → Form
form_of = fold-Stmt Bool Form Bool stage_step stmt_step chain_step

unfoldable pub chain_is_regular : Chain → Bool
chain_is_regular = fold-Chain Bool Form Bool stage_step stmt_step chain_step

-- ---- programs

-- "{" { stmt } "}"
abbrev pub block_is_regular : List Stmt → Bool
block_is_regular body = all_forms_regular (map form_of body)

-- type Id [ "=" expr ] ";" | Id "(" [ params ] ")" block | ( type | "void" ) Id "(" [ params ] ")" block
abbrev pub member_is_regular : Member → Bool
member_is_regular (member.Field sort name init) = option_is_regular init
member_is_regular (member.Constructor name params body) = block_is_regular body
member_is_regular (member.Handler result name params body) = block_is_regular body

-- "behavior" Id "{" { member } "}"
abbrev pub behavior_is_regular : Behavior → Bool
behavior_is_regular b = list_all member_is_regular b.members

-- behavior { behavior }
unfoldable pub is_regular : Program → Bool
is_regular p = has_any p.behaviors && list_all behavior_is_regular p.behaviors
