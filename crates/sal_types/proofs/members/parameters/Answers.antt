use Rattle.std.proofs.Common.{arith}
use Rattle.std.proofs.lemmas.Grind.{common_steps}
use Rattle.sal_types.proofs.MemberChecks.{params_at, after_params_at}
use Rattle.sal_types.proofs.members.parameters.Goals as goal

pub returns-in_err-parameter-clause-judged : goal.returns-in_err-parameter-clause-judged
returns-in_err-parameter-clause-judged c = grind (arith, common_steps, params_at c.args.params.now c.loop-p.p-index c.p-item.result c.loop-p.env c.loop-p-test.true c.p-item.is)

pub loop-p-preserved : goal.loop-p-preserved
loop-p-preserved c = record {
  judged = grind (arith, common_steps, params_at c.args.params.now c.loop-p.p-index c.p-item.result c.loop-p.env c.loop-p-test.true c.p-item.is);
  scope = grind (arith, common_steps, after_params_at c.args.params.now c.loop-p.p-index c.p-item.result c.loop-p.env c.loop-p-test.true c.p-item.is);
}
