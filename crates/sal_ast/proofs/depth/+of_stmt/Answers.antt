use Rattle.std.proofs.Common.{arith}
use Rattle.std.proofs.lemmas.Grind.{common_steps}
use Rattle.sal_ast.proofs.DepthEquations.{depth-If}
use Rattle.sal_ast.proofs.depth.+of_stmt.Goals as goal

pub of_stmt-returns-in-If : goal.of_stmt-returns-in-If
of_stmt-returns-in-If t c = grind (arith, common_steps, depth-If c.in-If.at c.in-If.test c.in-If.yes c.in-If.no)
