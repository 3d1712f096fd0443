use Rattle.std.proofs.Common.{◌≡◌, max, map, drop}
use Rattle.sal_ast.specs.Depth.{min_u32, greatest}
use Rattle.sal_ast.specs.Depth as spec
use Rattle.sal_ast.proofs.depth.+of_stmt.Given as goal

abbrev pub invariant-of_body-loop-stmt : goal.invariant-of_body-loop-stmt
invariant-of_body-loop-stmt l = max l.most (min_u32 (greatest (map spec.depth_stmt (drop l.stmt-index l.body)))) ≡ min_u32 (greatest (map spec.depth_stmt l.body))

abbrev pub invariant-of_stages-loop-stage : goal.invariant-of_stages-loop-stage
invariant-of_stages-loop-stage l = max l.most (min_u32 (greatest (map spec.depth_stage (drop l.stage-index l.stages)))) ≡ min_u32 (greatest (map spec.depth_stage l.stages))
