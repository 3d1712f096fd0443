use Rattle.std.proofs.Common.{◌≡◌, max, map, drop}
use Rattle.sal_ast.specs.Depth.{min_u32, greatest}
use Rattle.sal_ast.specs.Depth as spec
use Rattle.sal_ast.proofs.depth.of_behavior.Given as goal

abbrev pub invariant-loop-member : goal.invariant-loop-member
invariant-loop-member l = max l.most (min_u32 (greatest (map spec.depth_member (drop l.member-index l.member-items)))) ≡ min_u32 (greatest (map spec.depth_member l.behavior.members))
