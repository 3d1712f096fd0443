use Rattle.sal_pieces.proofs.Passing.{passed_over}
use Rattle.sal_pieces.proofs.law.outer_replies_change_nothing.Goals as goal

pub returns : goal.returns
returns c = passed_over
