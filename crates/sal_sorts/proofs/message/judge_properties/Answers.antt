use Rattle.std.proofs.Common.{arith, sym, ◌∙◌}
use Rattle.std.proofs.lemmas.Grind.{common_steps}
use Rattle.sal_sorts.specs.Messages.{property_verdict}
use Rattle.sal_sorts.proofs.MessageRefusals.{units_at, property_none}
use Rattle.sal_sorts.proofs.message.judge_properties.Goals as goal

pub returns-in_err-judge_property : goal.returns-in_err-judge_property
returns-in_err-judge_property c = grind (arith, common_steps, units_at (property_verdict c.args.env.now) c.args.properties.now c.loop-property.property-index c.property-item.result c.loop-property-test.true c.property-item.is)

pub loop-property-preserved : goal.loop-property-preserved
loop-property-preserved c = grind (arith, common_steps, units_at (property_verdict c.args.env.now) c.args.properties.now c.loop-property.property-index c.property-item.result c.loop-property-test.true c.property-item.is)

pub returns : goal.returns
returns c = sym c.loop-property.invariant ∙ property_none c.args.env.now c.args.properties.now c.loop-property.property-index c.loop-property-test.false
