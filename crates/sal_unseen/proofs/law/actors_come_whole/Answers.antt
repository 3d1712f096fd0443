use Rattle.sal_unseen.proofs.Moving.{come_whole}
use Rattle.sal_unseen.proofs.law.actors_come_whole.Goals as goal

pub returns : goal.returns
returns c = come_whole
