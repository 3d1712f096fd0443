use Rattle.std.proofs.Common.{◌≡◌, drop}
use Rattle.sal_ast.specs.Sorts.{level_sort}
use Rattle.sal_infer.specs.Scopes.{scope_in}
use Rattle.sal_infer.specs.code.Parts.{operands}
use Rattle.sal_infer.proofs.expressions.+expressions.Given as goal

abbrev pub invariant-level_sort-loop-operand : goal.invariant-level_sort-loop-operand
invariant-level_sort-loop-operand l = level_sort l.sort (operands (drop l.operand-index l.rest)) (scope_in l.scope) ≡ level_sort l.fn.first (operands l.rest) (scope_in l.scope)
