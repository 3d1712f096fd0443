use Rattle.sal_unseen.proofs.Unseen.{items_unseen}
use Rattle.sal_unseen.proofs.law.routed_items_are_unseen.Goals as goal

pub returns : goal.returns
returns c = items_unseen
