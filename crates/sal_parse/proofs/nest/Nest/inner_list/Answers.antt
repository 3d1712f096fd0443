use Rattle.std.proofs.Common.{rules}
use Rattle.sal_expressions.proofs.Turns.{turn_ok, turn_stop, turn_none}
use Rattle.sal_grammar.specs.Sets as is
use Rattle.sal_parse.specs.code.Nests.{inner}
use Rattle.sal_parse.specs.code.Parts.{inner_list}
use Rattle.sal_parse.proofs.nest.Nest.inner_list.Goals as goal

pub returns-then-not-sees : goal.returns-then-not-sees
unfolding inner_list
returns-then-not-sees g c =
    turn_stop _ _ c.loop-turn._turn is.first_stmt (inner c.args.self.now.depth) c.loop-turn.found c.loop-turn.cursor c.loop-turn-test.true c.loop-turn.invariant (search rules)

pub loop-turn-preserved : goal.loop-turn-preserved
loop-turn-preserved g c =
    let e = turn_ok _ _ c.loop-turn._turn is.first_stmt (inner c.args.self.now.depth) c.loop-turn.found c.loop-turn.cursor c.inner.new.cursor c.in_ok-item.item
    c.loop-turn-test.true c.loop-turn.invariant (search rules) c.in_ok-item.ensures in
    rw c.in_ok-add.ensures e

pub returns : goal.returns
unfolding inner_list
returns g c =
    turn_none _ _ c.loop-turn._turn is.first_stmt (inner c.args.self.now.depth) c.loop-turn.found c.loop-turn.cursor c.loop-turn-test.false c.loop-turn.invariant
