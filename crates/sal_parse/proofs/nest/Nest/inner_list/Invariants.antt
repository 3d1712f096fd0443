use Rattle.std.proofs.Common.{◌≡◌, ◌-◌, length}
use Rattle.sal_grammar.specs.Parsers.{many_from, prepend}
use Rattle.sal_grammar.specs.Sets as is
use Rattle.sal_parse.specs.code.Nests.{inner}
use Rattle.sal_parse.proofs.nest.Nest.inner_list.Given as goal

abbrev pub invariant-loop-turn : goal.invariant-loop-turn
invariant-loop-turn g l =
    many_from (length l.fn.cursor) is.first_stmt (inner l.self.depth) l.fn.cursor
    ≡ prepend l.found (many_from (l._turn-end - l._turn) is.first_stmt (inner l.self.depth) l.cursor)
