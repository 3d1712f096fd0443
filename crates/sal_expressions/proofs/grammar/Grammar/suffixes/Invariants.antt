use Rattle.std.proofs.Common.{◌≡◌, ◌-◌, length}
use Rattle.sal_grammar.specs.Expressions.{suffix}
use Rattle.sal_grammar.specs.Statements.{below}
use Rattle.sal_grammar.specs.Parsers.{many_from, prepend}
use Rattle.sal_grammar.specs.Sets as is
use Rattle.sal_expressions.proofs.grammar.Grammar.suffixes.Given as goal

abbrev pub invariant-loop-turn : goal.invariant-loop-turn
invariant-loop-turn g l =
    many_from (length l.fn.cursor) is.suffix (suffix l.self.depth (below l.self.depth)) l.fn.cursor
    ≡ prepend l.found (many_from (l._turn-end - l._turn) is.suffix (suffix l.self.depth (below l.self.depth)) l.cursor)
