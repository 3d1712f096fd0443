use Rattle.sal_handler.proofs.FairCalls.{handlers_orderly}
use Rattle.sal_handler.proofs.law.handlers_are_orderly.Goals as goal

pub returns : goal.returns
returns c = handlers_orderly
