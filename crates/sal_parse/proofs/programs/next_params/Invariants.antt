use Rattle.std.proofs.Common.{◌≡◌, ◌-◌, length}
use Rattle.sal_grammar.specs.Parsers.{many_from, prepend}
use Rattle.sal_grammar.specs.Sets as is
use Rattle.sal_parse.specs.code.Parts.{next_param}
use Rattle.sal_parse.proofs.programs.next_params.Given as goal

abbrev pub invariant-loop-turn : goal.invariant-loop-turn
invariant-loop-turn l =
    many_from (length l.fn.cursor) is.comma next_param l.fn.cursor
    ≡ prepend l.found (many_from (l._turn-end - l._turn) is.comma next_param l.cursor)
