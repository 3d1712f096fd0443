use Rattle.sal_pieces.proofs.Stepping.{fails_step}
use Rattle.sal_pieces.proofs.law.failures_are_steps.Goals as goal

pub returns : goal.returns
returns c = fails_step
