use Rattle.sal_unseen.proofs.Parts.{pending_dropped}
use Rattle.sal_unseen.proofs.law.pending_creations_are_dropped.Goals as goal

pub returns : goal.returns
returns c = pending_dropped
