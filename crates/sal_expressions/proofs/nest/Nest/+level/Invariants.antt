use Rattle.std.proofs.Common.{◌≡◌, ◌+◌, ◌-◌, ◌*◌, length}
use Rattle.sal_grammar.specs.Expressions.{unary}
use Rattle.sal_grammar.specs.Parsers.{many_from, prepend}
use Rattle.sal_expressions.specs.code.Ranks.{height, operand_at, operators_of}
use Rattle.sal_expressions.proofs.nest.Nest.+level.Given as goal

abbrev pub decreases-level : goal.decreases-level
decreases-level g l = 6 * height l.rank + 5

abbrev pub decreases-after : goal.decreases-after
decreases-after g l = 6 * height l.rank + 4

abbrev pub decreases-after_tighter : goal.decreases-after_tighter
decreases-after_tighter g l = 6 * height l.rank + 3

abbrev pub decreases-operands : goal.decreases-operands
decreases-operands g l = 6 * height l.rank + 2

abbrev pub decreases-operand : goal.decreases-operand
decreases-operand g l = 6 * height l.rank + 1

abbrev pub decreases-tighter : goal.decreases-tighter
decreases-tighter g l = 6 * height l.rank

abbrev pub invariant-operands-loop-turn : goal.invariant-operands-loop-turn
invariant-operands-loop-turn g l =
    many_from (length l.fn.cursor) (operators_of l.rank) (operand_at l.rank (unary l.self.depth)) l.fn.cursor
    ≡ prepend l.found (many_from (l._turn-end - l._turn) (operators_of l.rank) (operand_at l.rank (unary l.self.depth)) l.cursor)
