use Rattle.sal_handler.proofs.FairCalls.{handlers_fair}
use Rattle.sal_handler.proofs.law.handlers_are_well_formed.Goals as goal

pub returns : goal.returns
returns c = handlers_fair
