use Rattle.sal_handler.proofs.Turns.{handlers_few}
use Rattle.sal_handler.proofs.law.handlers_make_few.Goals as goal

pub returns : goal.returns
returns c = handlers_few
