use Rattle.std.proofs.Common.{◌≡◌, ◌-◌, length}
use Rattle.sal_expressions.specs.code.Items.{next_expr}
use Rattle.sal_grammar.specs.Expressions.{unary}
use Rattle.sal_grammar.specs.Parsers.{many_from, prepend}
use Rattle.sal_grammar.specs.Sets as is
use Rattle.sal_expressions.proofs.nest.Nest.next_exprs.Given as goal

abbrev pub invariant-loop-turn : goal.invariant-loop-turn
invariant-loop-turn g l =
    many_from (length l.fn.cursor) is.comma (next_expr (unary l.self.depth)) l.fn.cursor
    ≡ prepend l.found (many_from (l._turn-end - l._turn) is.comma (next_expr (unary l.self.depth)) l.cursor)
