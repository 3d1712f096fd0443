use Rattle.sal_pieces.proofs.Handling.{handlers_step}
use Rattle.sal_pieces.proofs.law.handlers_are_steps.Goals as goal

pub returns : goal.returns
returns c = handlers_step
