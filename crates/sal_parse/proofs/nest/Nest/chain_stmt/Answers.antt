use Rattle.std.proofs.Common.{rules, ◌≡◌, ◌∙◌, ap}
use Rattle.std.specs.Prelude.{Ok, Err}
use Rattle.sal_grammar.specs.Statements.{stage_by}
use Rattle.sal_parse.specs.declared.turn.Turn.{Turn}
use Rattle.sal_parse.specs.code.Nests.{inner}
use Rattle.sal_parse.proofs.Tails.{tail_next, tail_end, tail_stop, tail_none}
use Rattle.sal_parse.proofs.nest.Nest.chain_stmt.Goals as goal

pub loop-turn-preserved : goal.loop-turn-preserved
loop-turn-preserved g c =
    let x = c.in_ok-stage.ensures ∙ ap (λ (z : Turn). Ok (z, c.tail_turn.new.cursor)) c.in-Next.is in
    let e = tail_next _ _ c.loop-turn._turn (stage_by c.args.self.now.depth (inner c.args.self.now.depth)) c.loop-turn.stages c.loop-turn.cursor c.tail_turn.new.cursor
    c.in-Next.stage c.loop-turn-test.true c.loop-turn.invariant x in
    rw c.in_ok-add-in-Next.ensures e

pub returns-in-End : goal.returns-in-End
returns-in-End g c =
    let x = c.in_ok-stage.ensures ∙ ap (λ (z : Turn). Ok (z, c.tail_turn.new.cursor)) c.in-End.is in
    tail_end _ _ c.loop-turn._turn (stage_by c.args.self.now.depth (inner c.args.self.now.depth)) c.loop-turn.stages c.loop-turn.cursor c.tail_turn.new.cursor
    c.in-End.passed c.loop-turn-test.true c.loop-turn.invariant x

pub returns-in_err-stage : goal.returns-in_err-stage
returns-in_err-stage g c =
    let e : c.from_residual-in_err-stage.result ≡ Err c.in_err-stage.field-0.0 = search rules in
    rw e (tail_stop _ _ c.loop-turn._turn (stage_by c.args.self.now.depth (inner c.args.self.now.depth)) c.loop-turn.stages c.loop-turn.cursor c.tail_turn.new.cursor c.in_err-stage.field-0.0
    c.loop-turn-test.true c.loop-turn.invariant c.in_err-stage.ensures)

pub returns : goal.returns
returns g c =
    tail_none _ _ c.loop-turn._turn (stage_by c.args.self.now.depth (inner c.args.self.now.depth)) c.loop-turn.stages c.loop-turn.cursor c.loop-turn-test.false c.loop-turn.invariant
