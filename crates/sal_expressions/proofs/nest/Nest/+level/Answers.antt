use Rattle.sal_grammar.specs.Expressions.{unary}
use Rattle.sal_expressions.specs.code.Ranks.{operators_of, operand_at, operands_at}
use Rattle.sal_expressions.proofs.Turns.{turn_ok, turn_stop, turn_none, seen}
use Rattle.sal_expressions.proofs.nest.Nest.+level.Goals as goal

pub operands-returns-then-not-sees : goal.operands-returns-then-not-sees
unfolding operands_at
operands-returns-then-not-sees g t c =
    turn_stop _ _ c.loop-turn._turn (operators_of c.args.rank) (operand_at c.args.rank (unary c.args.self.now.depth)) c.loop-turn.found c.loop-turn.cursor c.loop-turn-test.true c.loop-turn.invariant (seen _ _ _ _ _ c.operators.ensures c.sees.ensures c.if-not-sees.true)

pub operands-loop-turn-preserved : goal.operands-loop-turn-preserved
operands-loop-turn-preserved g t c =
    let e = turn_ok _ _ c.loop-turn._turn (operators_of c.args.rank) (operand_at c.args.rank (unary c.args.self.now.depth)) c.loop-turn.found c.loop-turn.cursor c.operand.new.cursor c.in_ok-item.item
    c.loop-turn-test.true c.loop-turn.invariant (seen _ _ _ _ _ c.operators.ensures c.sees.ensures c.if-not-sees.false) c.in_ok-item.ensures in
    rw c.in_ok-add.ensures e

pub operands-returns : goal.operands-returns
unfolding operands_at
operands-returns g t c =
    turn_none _ _ c.loop-turn._turn (operators_of c.args.rank) (operand_at c.args.rank (unary c.args.self.now.depth)) c.loop-turn.found c.loop-turn.cursor c.loop-turn-test.false c.loop-turn.invariant
