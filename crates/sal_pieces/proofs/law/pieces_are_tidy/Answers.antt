use Rattle.sal_pieces.proofs.Tidy.{are_tidy}
use Rattle.sal_pieces.proofs.law.pieces_are_tidy.Goals as goal

pub returns : goal.returns
returns c = are_tidy
