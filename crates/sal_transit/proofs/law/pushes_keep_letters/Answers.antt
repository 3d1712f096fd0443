use Rattle.sal_transit.proofs.Pushing.{keep_letters}
use Rattle.sal_transit.proofs.law.pushes_keep_letters.Goals as goal

pub returns : goal.returns
returns c = keep_letters
