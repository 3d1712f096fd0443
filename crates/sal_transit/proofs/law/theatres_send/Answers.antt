use Rattle.sal_transit.proofs.Turns.{theatres_send}
use Rattle.sal_transit.proofs.law.theatres_send.Goals as goal

pub returns : goal.returns
returns c = theatres_send
