use Rattle.sal_soundness.proofs.Ending.{bodies_end}
use Rattle.sal_soundness.proofs.law.bodies_that_end_return.Goals as goal

pub returns : goal.returns
returns c = bodies_end
