use Rattle.sal_pieces.proofs.Keeping.{steps_below}
use Rattle.sal_pieces.proofs.law.steps_keep_below.Goals as goal

pub returns : goal.returns
returns c = steps_below
