use Rattle.std.proofs.Common.{arith}
use Rattle.std.proofs.lemmas.Grind.{common_steps}
use Rattle.sal_sorts.specs.Messages.{waitfor_verdict}
use Rattle.sal_sorts.proofs.MessageRefusals.{units_at}
use Rattle.sal_sorts.proofs.message.judge_waitfors.Goals as goal

pub returns-in_err-judge_waitfor : goal.returns-in_err-judge_waitfor
returns-in_err-judge_waitfor c = grind (arith, common_steps, units_at (waitfor_verdict c.args.env.now) c.args.names.now c.loop-name.name-index c.name-item.result c.loop-name-test.true c.name-item.is)

pub loop-name-preserved : goal.loop-name-preserved
loop-name-preserved c = grind (arith, common_steps, units_at (waitfor_verdict c.args.env.now) c.args.names.now c.loop-name.name-index c.name-item.result c.loop-name-test.true c.name-item.is)
