use Rattle.std.proofs.Common.{◌≡◌, ◌-◌, length}
use Rattle.sal_grammar.specs.Parsers.{many_from, prepend}
use Rattle.sal_grammar.specs.Sets as is
use Rattle.sal_grammar.specs.Statements.{stmt}
use Rattle.sal_parse.proofs.programs.stmt_list.Given as goal

abbrev pub invariant-loop-turn : goal.invariant-loop-turn
invariant-loop-turn l =
    many_from (length l.fn.cursor) is.first_stmt (stmt l.depth) l.fn.cursor
    ≡ prepend l.found (many_from (l._turn-end - l._turn) is.first_stmt (stmt l.depth) l.cursor)
