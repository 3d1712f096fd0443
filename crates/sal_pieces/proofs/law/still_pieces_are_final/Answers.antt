use Rattle.sal_pieces.proofs.Final.{are_final}
use Rattle.sal_pieces.proofs.law.still_pieces_are_final.Goals as goal

pub returns : goal.returns
returns c = are_final
