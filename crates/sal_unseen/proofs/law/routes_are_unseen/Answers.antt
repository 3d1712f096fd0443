use Rattle.sal_unseen.proofs.Unseen.{routes_unseen}
use Rattle.sal_unseen.proofs.law.routes_are_unseen.Goals as goal

pub returns : goal.returns
returns c = routes_unseen
