use Rattle.std.proofs.Common.{rules}
use Rattle.sal_expressions.proofs.Turns.{turn_ok, turn_stop, turn_none}
use Rattle.sal_grammar.specs.Sets as is
use Rattle.sal_parse.specs.code.Parts.{next_param}
use Rattle.sal_parse.specs.code.Parts.{next_params}
use Rattle.sal_parse.proofs.programs.next_params.Goals as goal

pub returns-then-not-sees : goal.returns-then-not-sees
unfolding next_params
returns-then-not-sees c =
    turn_stop _ _ c.loop-turn._turn is.comma next_param c.loop-turn.found c.loop-turn.cursor c.loop-turn-test.true c.loop-turn.invariant (search rules)

pub loop-turn-preserved : goal.loop-turn-preserved
loop-turn-preserved c =
    let e = turn_ok _ _ c.loop-turn._turn is.comma next_param c.loop-turn.found c.loop-turn.cursor c.next_param.new.cursor c.in_ok-next_param.field-0
    c.loop-turn-test.true c.loop-turn.invariant (search rules) c.in_ok-next_param.ensures in
    rw c.in_ok-push.ensures.ok e

pub returns : goal.returns
unfolding next_params
returns c =
    turn_none _ _ c.loop-turn._turn is.comma next_param c.loop-turn.found c.loop-turn.cursor c.loop-turn-test.false c.loop-turn.invariant
