use Rattle.sal_pieces.proofs.Books.{keep_once}
use Rattle.sal_pieces.proofs.law.replies_keep_once.Goals as goal

pub returns : goal.returns
returns c = keep_once
