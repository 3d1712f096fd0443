use Rattle.std.proofs.Common.{◌≡◌, max, map, drop}
use Rattle.sal_ast.specs.Depth.{min_u32, greatest}
use Rattle.sal_ast.specs.Depth as spec
use Rattle.sal_ast.proofs.program.Program.depth.Given as goal

abbrev pub invariant-loop-behavior : goal.invariant-loop-behavior
invariant-loop-behavior l = max l.most (min_u32 (greatest (map spec.depth_behavior (drop l.behavior-index l.behavior-items)))) ≡ min_u32 (greatest (map spec.depth_behavior l.self.behaviors))
