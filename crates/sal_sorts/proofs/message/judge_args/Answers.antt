use Rattle.std.proofs.Common.{arith}
use Rattle.std.proofs.lemmas.Grind.{common_steps}
use Rattle.sal_sorts.proofs.MessageRefusals.{args_at}
use Rattle.sal_sorts.proofs.message.judge_args.Goals as goal

pub returns-in_err-judge_arg-clause-judged : goal.returns-in_err-judge_arg-clause-judged
returns-in_err-judge_arg-clause-judged c = grind (arith, common_steps, args_at c.loop-arg.done c.args.args.now c.loop-arg.arg-index c.arg-item.result c.args.before.now c.args.env.now c.loop-arg-test.true c.arg-item.is)

pub loop-arg-preserved : goal.loop-arg-preserved
loop-arg-preserved c = record {
  same = grind (arith, common_steps, args_at c.loop-arg.done c.args.args.now c.loop-arg.arg-index c.arg-item.result c.args.before.now c.args.env.now c.loop-arg-test.true c.arg-item.is);
  so_far = grind (arith, common_steps);
}
