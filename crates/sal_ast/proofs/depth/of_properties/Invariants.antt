use Rattle.std.proofs.Common.{◌≡◌, max, map, drop}
use Rattle.sal_ast.specs.Depth.{min_u32, greatest}
use Rattle.sal_ast.specs.Depth as spec
use Rattle.sal_ast.proofs.depth.of_properties.Given as goal

abbrev pub invariant-loop-property : goal.invariant-loop-property
invariant-loop-property l = max l.most (min_u32 (greatest (map spec.depth_property (drop l.property-index l.properties)))) ≡ min_u32 (greatest (map spec.depth_property l.properties))
