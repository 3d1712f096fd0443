use Rattle.std.proofs.Common.{arith}
use Rattle.std.proofs.lemmas.Grind.{common_steps}
use Rattle.sal_types.proofs.MemberChecks.{members_at}
use Rattle.sal_types.proofs.members.judge_members.Goals as goal

pub returns-in_err-judge_member : goal.returns-in_err-judge_member
returns-in_err-judge_member c = grind (arith, common_steps, members_at c.args.behaviors.now c.args.own.now c.args.members.now c.loop-i.i c.index-members-i.result c.loop-i-test.true c.index-members-i.is)

pub loop-i-preserved : goal.loop-i-preserved
loop-i-preserved c = grind (arith, common_steps, members_at c.args.behaviors.now c.args.own.now c.args.members.now c.loop-i.i c.index-members-i.result c.loop-i-test.true c.index-members-i.is)
