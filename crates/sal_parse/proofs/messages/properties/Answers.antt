use Rattle.std.proofs.Common.{rules}
use Rattle.sal_expressions.proofs.Turns.{turn_ok, turn_stop, turn_none}
use Rattle.sal_grammar.specs.Sets as is
use Rattle.sal_grammar.specs.Statements.{property}
use Rattle.sal_parse.specs.code.Parts.{properties}
use Rattle.sal_parse.proofs.messages.properties.Goals as goal

pub returns-then-not-sees : goal.returns-then-not-sees
unfolding properties
returns-then-not-sees c =
    turn_stop _ _ c.loop-turn._turn is.colon (property c.args.depth) c.loop-turn.found c.loop-turn.cursor c.loop-turn-test.true c.loop-turn.invariant (search rules)

pub loop-turn-preserved : goal.loop-turn-preserved
loop-turn-preserved c =
    let e = turn_ok _ _ c.loop-turn._turn is.colon (property c.args.depth) c.loop-turn.found c.loop-turn.cursor c.property.new.cursor c.in_ok-item.item
    c.loop-turn-test.true c.loop-turn.invariant (search rules) c.in_ok-item.ensures in
    rw c.in_ok-add.ensures e

pub returns : goal.returns
unfolding properties
returns c =
    turn_none _ _ c.loop-turn._turn is.colon (property c.args.depth) c.loop-turn.found c.loop-turn.cursor c.loop-turn-test.false c.loop-turn.invariant
