use Rattle.sal_carriage.proofs.Halves.{commute}
use Rattle.sal_carriage.proofs.law.halves_commute.Goals as goal

pub returns : goal.returns
returns c = commute
