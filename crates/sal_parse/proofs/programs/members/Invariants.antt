use Rattle.std.proofs.Common.{◌≡◌, ◌-◌, length}
use Rattle.sal_grammar.specs.Parsers.{many_from, prepend}
use Rattle.sal_grammar.specs.Sets as is
use Rattle.sal_grammar.specs.Programs.{member}
use Rattle.sal_parse.proofs.programs.members.Given as goal

abbrev pub invariant-loop-turn : goal.invariant-loop-turn
invariant-loop-turn l =
    many_from (length l.fn.cursor) is.first_member (member l.depth) l.fn.cursor
    ≡ prepend l.found (many_from (l._turn-end - l._turn) is.first_member (member l.depth) l.cursor)
