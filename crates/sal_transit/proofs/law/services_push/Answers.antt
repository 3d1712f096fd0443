use Rattle.sal_transit.proofs.Turns.{services_push}
use Rattle.sal_transit.proofs.law.services_push.Goals as goal

pub returns : goal.returns
returns c = services_push
