use Rattle.sal_unseen.proofs.Unseen.{moves_unseen}
use Rattle.sal_unseen.proofs.law.moves_are_unseen.Goals as goal

pub returns : goal.returns
returns c = moves_unseen
