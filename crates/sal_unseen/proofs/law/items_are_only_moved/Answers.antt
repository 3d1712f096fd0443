use Rattle.sal_unseen.proofs.Moving.{items_moved}
use Rattle.sal_unseen.proofs.law.items_are_only_moved.Goals as goal

pub returns : goal.returns
returns c = items_moved
