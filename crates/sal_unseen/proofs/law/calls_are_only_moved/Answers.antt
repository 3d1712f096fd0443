use Rattle.sal_unseen.proofs.Moving.{calls_moved}
use Rattle.sal_unseen.proofs.law.calls_are_only_moved.Goals as goal

pub returns : goal.returns
returns c = calls_moved
