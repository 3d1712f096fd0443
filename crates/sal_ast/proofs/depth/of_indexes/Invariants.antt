use Rattle.std.proofs.Common.{◌≡◌, max, map, drop}
use Rattle.sal_ast.specs.Depth.{min_u32, greatest}
use Rattle.sal_ast.specs.Depth as spec
use Rattle.sal_ast.proofs.depth.of_indexes.Given as goal

abbrev pub invariant-loop-index : goal.invariant-loop-index
invariant-loop-index l = max l.most (min_u32 (greatest (map spec.depth_index (drop l.index-index l.indexes)))) ≡ min_u32 (greatest (map spec.depth_index l.indexes))
