use Rattle.std.proofs.Common.{◌≡◌, drop}
use Rattle.sal_sorts.specs.Messages.{property_verdict}
use Rattle.sal_sorts.specs.code.Messaging.{units_result}
use Rattle.sal_sorts.proofs.message.judge_properties.Given as goal

abbrev pub invariant-loop-property : goal.invariant-loop-property
invariant-loop-property l = units_result (property_verdict l.env) (drop l.property-index l.properties) ≡ units_result (property_verdict l.env) l.fn.properties
