use Rattle.sal_unseen.proofs.Parts.{arrivals_unseen}
use Rattle.sal_unseen.proofs.law.arrivals_are_unseen.Goals as goal

pub returns : goal.returns
returns c = arrivals_unseen
