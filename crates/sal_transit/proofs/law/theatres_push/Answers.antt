use Rattle.sal_transit.proofs.Turns.{theatres_push}
use Rattle.sal_transit.proofs.law.theatres_push.Goals as goal

pub returns : goal.returns
returns c = theatres_push
