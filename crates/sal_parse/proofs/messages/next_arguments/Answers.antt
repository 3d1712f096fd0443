use Rattle.std.proofs.Common.{rules}
use Rattle.sal_expressions.proofs.Turns.{turn_ok}
use Rattle.sal_grammar.specs.Sets as is
use Rattle.sal_parse.specs.code.Parts.{next_argument}
use Rattle.sal_parse.proofs.messages.next_arguments.Goals as goal

pub loop-turn-preserved : goal.loop-turn-preserved
loop-turn-preserved c =
    let e = turn_ok _ _ c.loop-turn._turn is.comma (next_argument c.args.depth) c.loop-turn.found c.loop-turn.cursor c.next_argument.new.cursor c.in_ok-item.item
    c.loop-turn-test.true c.loop-turn.invariant (search rules) c.in_ok-item.ensures in
    rw c.in_ok-add.ensures e
