-- The offset of the first token.
use Rattle.std.specs.Prelude.{ℕ}
use Rattle.sal_ast.specs.declared.expression.Expr.{Expr}
use Rattle.sal_ast.specs.declared.expression.Expr.TheOpen.{Expr-F, Suffix-F, At-F, Operand-F}
use Rattle.sal_ast.specs.declared.expression.Expr.TheFolds.{fold-Expr}
use Rattle.sal_ast.specs.declared.statement.Arg.{Arg}
use Rattle.sal_ast.specs.declared.statement.Arg.TheVariants as arg
use Rattle.sal_ast.specs.declared.statement.Aim.{Aim}
use Rattle.sal_ast.specs.declared.statement.Aim.TheVariants as aim
use Rattle.sal_ast.specs.declared.statement.Send.{Send}

-- the first token of each form
abbrev pub start_step : Expr-F ℕ (Unit {0}) (Unit {0}) (Unit {0}) → ℕ
start_step (Expr-F.Number n at) = at
start_step (Expr-F.Str text at) = at
start_step (Expr-F.Bool b at) = at
start_step (Expr-F.Null at) = at
start_step (Expr-F.Me at) = at
start_step (Expr-F.Name name) = name.at
start_step (Expr-F.Own at name) = at
start_step (Expr-F.Paren at e) = at
start_step (Expr-F.Neg at e) = at
start_step (Expr-F.Not at e) = at
start_step (Expr-F.Level first rest) = first
start_step (Expr-F.Suffixed first rest) = first
start_step (Expr-F.New at behavior args place) = at
start_step (Expr-F.Make at sort size) = at
start_step (Expr-F.ListOf at sort items) = at
start_step (Expr-F.ByName at cast behavior name) = at

-- what stands behind the first token
abbrev pub suffix_step : Suffix-F ℕ (Unit {0}) (Unit {0}) (Unit {0}) → Unit {0}
suffix_step x = tt

-- what stands behind the first token
abbrev pub at_step : At-F ℕ (Unit {0}) (Unit {0}) (Unit {0}) → Unit {0}
at_step x = tt

-- what stands behind the first token
abbrev pub operand_step : Operand-F ℕ (Unit {0}) (Unit {0}) (Unit {0}) → Unit {0}
operand_step x = tt

-- the first token of an expression
unfoldable pub expr_start : Expr → ℕ
expr_start = fold-Expr ℕ (Unit {0}) (Unit {0}) (Unit {0}) start_step suffix_step at_step operand_step

-- of an argument
abbrev pub arg_start : Arg → ℕ
arg_start (arg.Token at) = at
arg_start (arg.Expr e) = expr_start e

-- of a message to this target; where none is written, of its handler's name
abbrev pub aim_start : Aim → ℕ → ℕ
aim_start aim.Own handler = handler
aim_start (aim.Output at) handler = at
aim_start (aim.Actor e) handler = expr_start e

-- of a message
abbrev pub message_start : Send → ℕ
message_start m = aim_start m.aim m.handler.at
