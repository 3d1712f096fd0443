use Rattle.sal_pieces.proofs.Keeping.{replies_tidy}
use Rattle.sal_pieces.proofs.law.replies_keep_tidy.Goals as goal

pub returns : goal.returns
returns c = replies_tidy
