use Rattle.sal_unseen.proofs.Moving.{leave_whole}
use Rattle.sal_unseen.proofs.law.actors_leave_whole.Goals as goal

pub returns : goal.returns
returns c = leave_whole
