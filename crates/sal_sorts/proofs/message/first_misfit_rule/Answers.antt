use Rattle.std.proofs.Common.{arith}
use Rattle.std.proofs.lemmas.Grind.{common_steps}
use Rattle.sal_sorts.proofs.MessageRefusals.{misfit_later}
use Rattle.sal_sorts.proofs.message.first_misfit_rule.Goals as goal

pub loop-i-preserved : goal.loop-i-preserved
loop-i-preserved c = grind (arith, common_steps, misfit_later c.args.env.now c.args.args.now c.args.sorts.now c.args.params.now c.loop-i.i c.index-sorts-i.result c.index-params-i.result (omega arith) (omega arith) (omega arith) c.index-sorts-i.is c.index-params-i.is)
