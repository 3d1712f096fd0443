use Rattle.sal_transit.proofs.Turns.{theatres_take}
use Rattle.sal_transit.proofs.law.theatres_take.Goals as goal

pub returns : goal.returns
returns c = theatres_take
