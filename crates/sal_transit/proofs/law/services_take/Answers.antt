use Rattle.sal_transit.proofs.Turns.{services_take}
use Rattle.sal_transit.proofs.law.services_take.Goals as goal

pub returns : goal.returns
returns c = services_take
