use Rattle.std.proofs.Common.{arith}
use Rattle.std.proofs.lemmas.Grind.{common_steps}
use Rattle.sal_types.proofs.MemberChecks.{behaviors_at}
use Rattle.sal_types.proofs.program.judge_behaviors.Goals as goal

pub returns-in_err-judge_behavior : goal.returns-in_err-judge_behavior
returns-in_err-judge_behavior c = grind (arith, common_steps, behaviors_at c.args.behaviors.now c.args.behaviors.now c.loop-i.i c.index-behaviors-i.result c.loop-i-test.true c.index-behaviors-i.is)

pub loop-i-preserved : goal.loop-i-preserved
loop-i-preserved c = grind (arith, common_steps, behaviors_at c.args.behaviors.now c.args.behaviors.now c.loop-i.i c.index-behaviors-i.result c.loop-i-test.true c.index-behaviors-i.is)
