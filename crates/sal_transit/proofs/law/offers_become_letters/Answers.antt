use Rattle.sal_transit.proofs.Offering.{become_letters}
use Rattle.sal_transit.proofs.law.offers_become_letters.Goals as goal

pub returns : goal.returns
returns c = become_letters
