use Rattle.std.proofs.Common.{arith}
use Rattle.std.proofs.lemmas.Grind.{common_steps}
use Rattle.sal_sorts.proofs.Lookups.{handler_at}
use Rattle.sal_sorts.proofs.member.Callee.first.Goals as goal

pub returns-in-Some : goal.returns-in-Some
returns-in-Some c = grind (arith, common_steps, handler_at c.args.name.now c.args.members.now c.loop-member.member-index c.member-item.result c.loop-member-test.true c.member-item.is)

pub loop-member-preserved : goal.loop-member-preserved
loop-member-preserved c = grind (arith, common_steps, handler_at c.args.name.now c.args.members.now c.loop-member.member-index c.member-item.result c.loop-member-test.true c.member-item.is)
