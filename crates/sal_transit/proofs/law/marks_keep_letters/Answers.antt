use Rattle.sal_transit.proofs.Turns.{marks_keep}
use Rattle.sal_transit.proofs.law.marks_keep_letters.Goals as goal

pub returns : goal.returns
returns c = marks_keep
