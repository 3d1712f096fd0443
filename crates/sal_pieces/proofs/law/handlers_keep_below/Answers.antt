use Rattle.sal_pieces.proofs.Below.{keep_below}
use Rattle.sal_pieces.proofs.law.handlers_keep_below.Goals as goal

pub returns : goal.returns
returns c = keep_below
