use Rattle.sal_pieces.proofs.Creations.{are_decided}
use Rattle.sal_pieces.proofs.law.creations_are_decided.Goals as goal

pub returns : goal.returns
returns c = are_decided
