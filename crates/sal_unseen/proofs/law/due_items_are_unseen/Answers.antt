use Rattle.sal_unseen.proofs.Parts.{due_unseen}
use Rattle.sal_unseen.proofs.law.due_items_are_unseen.Goals as goal

pub returns : goal.returns
returns c = due_unseen
