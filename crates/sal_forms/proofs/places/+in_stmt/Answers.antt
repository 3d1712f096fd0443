use Rattle.std.proofs.Common.{arith}
use Rattle.std.proofs.lemmas.Grind.{common_steps}
use Rattle.sal_forms.proofs.PlacesEquations.{names-If}
use Rattle.sal_forms.proofs.places.+in_stmt.Goals as goal

pub in_stmt-returns-else-in_stmt : goal.in_stmt-returns-else-in_stmt
in_stmt-returns-else-in_stmt t c = grind (arith, common_steps, names-If c.in-If.at c.in-If.test c.in-If.yes c.in-If.no)
