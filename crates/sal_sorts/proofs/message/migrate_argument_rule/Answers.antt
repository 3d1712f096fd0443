use Rattle.std.proofs.Common.{arith}
use Rattle.std.proofs.lemmas.Grind.{common_steps}
use Rattle.sal_sorts.proofs.MessageRefusals.{migrate_at}
use Rattle.sal_sorts.proofs.message.migrate_argument_rule.Goals as goal

pub returns-in-len1-up : goal.returns-in-len1-up
returns-in-len1-up c = grind (arith, common_steps, migrate_at c.args.env.now c.args.args.now c.arg-item.result c.args.sort.now (omega arith) c.arg-item.is)
