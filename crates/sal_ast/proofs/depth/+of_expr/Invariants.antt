use Rattle.std.proofs.Common.{◌≡◌, max, map, drop}
use Rattle.sal_ast.specs.Depth.{min_u32, greatest}
use Rattle.sal_ast.specs.Depth as spec
use Rattle.sal_ast.proofs.depth.+of_expr.Given as goal

abbrev pub invariant-of_all-loop-item : goal.invariant-of_all-loop-item
invariant-of_all-loop-item l = max l.most (min_u32 (greatest (map spec.depth_expr (drop l.item-index l.items)))) ≡ min_u32 (greatest (map spec.depth_expr l.items))

abbrev pub invariant-of_operands-loop-operand : goal.invariant-of_operands-loop-operand
invariant-of_operands-loop-operand l = max l.most (min_u32 (greatest (map spec.depth_operand (drop l.operand-index l.rest)))) ≡ min_u32 (greatest (map spec.depth_operand l.rest))

abbrev pub invariant-of_suffixes-loop-suffix : goal.invariant-of_suffixes-loop-suffix
invariant-of_suffixes-loop-suffix l = max l.most (min_u32 (greatest (map spec.depth_suffix (drop l.suffix-index l.rest)))) ≡ min_u32 (greatest (map spec.depth_suffix l.rest))
