use Rattle.std.proofs.Common.{arith}
use Rattle.std.proofs.lemmas.Grind.{common_steps}
use Rattle.sal_infer.specs.Scopes.{scope_in}
use Rattle.sal_infer.proofs.Levels.{level_at}
use Rattle.sal_infer.proofs.expressions.+expressions.Goals as goal

pub level_sort-loop-operand-preserved : goal.level_sort-loop-operand-preserved
level_sort-loop-operand-preserved t c =
    grind (arith, common_steps, level_at c.loop-operand.sort c.args.rest.now c.loop-operand.operand-index c.operand-item.result (scope_in c.args.scope.now) c.loop-operand-test.true c.operand-item.is)
