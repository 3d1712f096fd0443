use Rattle.sal_transit.proofs.Turns.{idle_theatres}
use Rattle.sal_transit.proofs.law.idle_theatres_keep.Goals as goal

pub returns : goal.returns
returns c = idle_theatres
