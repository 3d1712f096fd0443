use Rattle.std.proofs.Common.{arith}
use Rattle.std.proofs.lemmas.Grind.{common_steps}
use Rattle.sal_send.proofs.Serials.{property_step}
use Rattle.sal_send.proofs.after.add_waitfor.Goals as goal

pub loop-property-preserved : goal.loop-property-preserved
loop-property-preserved c = grind (arith, common_steps, property_step c.args.properties.now c.loop-property.property-index c.property-item.result c.loop-property.serials c.args.state.now c.loop-property-test.true c.property-item.is)
