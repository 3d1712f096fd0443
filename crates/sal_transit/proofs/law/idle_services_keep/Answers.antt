use Rattle.sal_transit.proofs.Turns.{idle_services}
use Rattle.sal_transit.proofs.law.idle_services_keep.Goals as goal

pub returns : goal.returns
returns c = idle_services
