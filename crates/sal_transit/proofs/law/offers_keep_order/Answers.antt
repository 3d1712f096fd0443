use Rattle.sal_transit.proofs.Offering.{keep_order}
use Rattle.sal_transit.proofs.law.offers_keep_order.Goals as goal

pub returns : goal.returns
returns c = keep_order
