use Rattle.std.proofs.Common.{◌≡◌, ◌-◌, length}
use Rattle.sal_grammar.specs.Parsers.{many_from, prepend}
use Rattle.sal_grammar.specs.Sets as is
use Rattle.sal_parse.specs.code.Parts.{opened_index}
use Rattle.sal_parse.proofs.variables.indexes.Given as goal

abbrev pub invariant-loop-turn : goal.invariant-loop-turn
invariant-loop-turn l =
    many_from (length l.fn.cursor) is.open_bracket (opened_index l.depth) l.fn.cursor
    ≡ prepend l.found (many_from (l._turn-end - l._turn) is.open_bracket (opened_index l.depth) l.cursor)
