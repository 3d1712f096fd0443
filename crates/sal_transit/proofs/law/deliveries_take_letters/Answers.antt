use Rattle.sal_transit.proofs.Delivering.{take_letters}
use Rattle.sal_transit.proofs.law.deliveries_take_letters.Goals as goal

pub returns : goal.returns
returns c = take_letters
