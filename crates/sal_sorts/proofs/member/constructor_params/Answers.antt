use Rattle.std.proofs.Common.{arith}
use Rattle.std.proofs.lemmas.Grind.{common_steps}
use Rattle.sal_sorts.proofs.Lookups.{constructor_at}
use Rattle.sal_sorts.proofs.member.constructor_params.Goals as goal

pub returns-in-Constructor : goal.returns-in-Constructor
returns-in-Constructor c = grind (arith, common_steps, constructor_at c.args.members.now c.loop-member.member-index c.member-item.result c.loop-member-test.true c.member-item.is)

pub loop-member-preserved : goal.loop-member-preserved
loop-member-preserved c = grind (arith, common_steps, constructor_at c.args.members.now c.loop-member.member-index c.member-item.result c.loop-member-test.true c.member-item.is)
