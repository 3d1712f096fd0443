use Rattle.sal_pieces.proofs.Stepping.{prints_step}
use Rattle.sal_pieces.proofs.law.prints_are_steps.Goals as goal

pub returns : goal.returns
returns c = prints_step
