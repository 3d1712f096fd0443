use Rattle.std.proofs.Common.{rules}
use Rattle.sal_expressions.proofs.Turns.{turn_ok, turn_stop, turn_none}
use Rattle.sal_grammar.specs.Sets as is
use Rattle.sal_grammar.specs.Statements.{stmt}
use Rattle.sal_parse.specs.code.Parts.{stmt_list}
use Rattle.sal_parse.proofs.programs.stmt_list.Goals as goal

pub returns-then-not-sees : goal.returns-then-not-sees
unfolding stmt_list
returns-then-not-sees c =
    turn_stop _ _ c.loop-turn._turn is.first_stmt (stmt c.args.depth) c.loop-turn.found c.loop-turn.cursor c.loop-turn-test.true c.loop-turn.invariant (search rules)

pub loop-turn-preserved : goal.loop-turn-preserved
loop-turn-preserved c =
    let e = turn_ok _ _ c.loop-turn._turn is.first_stmt (stmt c.args.depth) c.loop-turn.found c.loop-turn.cursor c.stmt.new.cursor c.in_ok-item.item
    c.loop-turn-test.true c.loop-turn.invariant (search rules) c.in_ok-item.ensures in
    rw c.in_ok-add.ensures e

pub returns : goal.returns
unfolding stmt_list
returns c =
    turn_none _ _ c.loop-turn._turn is.first_stmt (stmt c.args.depth) c.loop-turn.found c.loop-turn.cursor c.loop-turn-test.false c.loop-turn.invariant
