use Rattle.std.proofs.Common.{rules}
use Rattle.sal_expressions.proofs.Turns.{turn_ok, turn_stop, turn_none}
use Rattle.sal_grammar.specs.Sets as is
use Rattle.sal_grammar.specs.Programs.{member}
use Rattle.sal_parse.specs.code.Parts.{members}
use Rattle.sal_parse.proofs.programs.members.Goals as goal

pub returns-then-not-sees : goal.returns-then-not-sees
unfolding members
returns-then-not-sees c =
    turn_stop _ _ c.loop-turn._turn is.first_member (member c.args.depth) c.loop-turn.found c.loop-turn.cursor c.loop-turn-test.true c.loop-turn.invariant (search rules)

pub loop-turn-preserved : goal.loop-turn-preserved
loop-turn-preserved c =
    let e = turn_ok _ _ c.loop-turn._turn is.first_member (member c.args.depth) c.loop-turn.found c.loop-turn.cursor c.member.new.cursor c.in_ok-member.field-0
    c.loop-turn-test.true c.loop-turn.invariant (search rules) c.in_ok-member.ensures in
    rw c.in_ok-push.ensures.ok e

pub returns : goal.returns
unfolding members
returns c =
    turn_none _ _ c.loop-turn._turn is.first_member (member c.args.depth) c.loop-turn.found c.loop-turn.cursor c.loop-turn-test.false c.loop-turn.invariant
