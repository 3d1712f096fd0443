use Rattle.sal_routing.proofs.Nodes.{parts_keep}
use Rattle.sal_routing.proofs.law.parts_keep_the_node.Goals as goal

pub returns : goal.returns
returns c = parts_keep
