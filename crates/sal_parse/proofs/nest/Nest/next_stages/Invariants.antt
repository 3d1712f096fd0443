use Rattle.std.proofs.Common.{◌≡◌, ◌-◌, length}
use Rattle.sal_grammar.specs.Parsers.{many_from, prepend}
use Rattle.sal_grammar.specs.Sets as is
use Rattle.sal_parse.specs.code.Parts.{next_stage}
use Rattle.sal_parse.proofs.nest.Nest.next_stages.Given as goal

abbrev pub invariant-loop-turn : goal.invariant-loop-turn
invariant-loop-turn g l =
    many_from (length l.fn.cursor) is.then_sign (next_stage l.self.depth) l.fn.cursor
    ≡ prepend l.found (many_from (l._turn-end - l._turn) is.then_sign (next_stage l.self.depth) l.cursor)
