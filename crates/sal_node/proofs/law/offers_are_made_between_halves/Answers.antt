use Rattle.sal_node.proofs.Halves.{between}
use Rattle.sal_node.proofs.law.offers_are_made_between_halves.Goals as goal

pub returns : goal.returns
returns c = between
