use Rattle.sal_pieces.proofs.Keeping.{replies_below}
use Rattle.sal_pieces.proofs.law.replies_keep_below.Goals as goal

pub returns : goal.returns
returns c = replies_below
