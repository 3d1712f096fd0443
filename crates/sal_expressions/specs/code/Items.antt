-- Lists of expressions, given the parser of unary expressions.
use Rattle.std.specs.Prelude.{List}
use Rattle.sal_ast.specs.declared.expression.Expr.{Expr}
use Rattle.sal_grammar.specs.Expressions.{comma_item, items_until, list_until, expr_of}
use Rattle.sal_grammar.specs.Parsers.{Parser, many}
use Rattle.sal_grammar.specs.Sets as is
use Rattle.sal_grammar.specs.Tokens.{Set}

unfoldable pub next_expr : Parser Expr → Parser Expr
next_expr unary = comma_item (expr_of unary)

unfoldable pub next_exprs : Parser Expr → Parser (List Expr)
next_exprs unary = many is.comma (next_expr unary)

unfoldable pub exprs_until : Set → Parser Expr → Parser (List Expr)
exprs_until close unary = items_until close (expr_of unary)

unfoldable pub expr_list : Set → Parser Expr → Parser (List Expr)
expr_list close unary = list_until close (expr_of unary)
