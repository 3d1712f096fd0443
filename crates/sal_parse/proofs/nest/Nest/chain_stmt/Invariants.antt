use Rattle.std.proofs.Common.{◌≡◌, ◌-◌}
use Rattle.sal_grammar.specs.Statements.{chain_stmt, stage_by, tail_from}
use Rattle.sal_parse.specs.code.Nests.{inner}
use Rattle.sal_parse.specs.code.Parts.{finished}
use Rattle.sal_parse.proofs.nest.Nest.chain_stmt.Given as goal

abbrev pub invariant-loop-turn : goal.invariant-loop-turn
invariant-loop-turn g l =
    chain_stmt l.self.depth (inner l.self.depth) l.fn.first l.fn.cursor
    ≡ finished l.stages (tail_from (l._turn-end - l._turn) (stage_by l.self.depth (inner l.self.depth)) l.cursor)
