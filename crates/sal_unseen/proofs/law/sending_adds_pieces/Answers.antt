use Rattle.sal_unseen.proofs.Sending.{adds_pieces}
use Rattle.sal_unseen.proofs.law.sending_adds_pieces.Goals as goal

pub returns : goal.returns
returns c = adds_pieces
