use Rattle.sal_theatre.proofs.Keeping.{turns_keep}
use Rattle.sal_theatre.proofs.law.turns_keep_the_node.Goals as goal

pub returns : goal.returns
returns c = turns_keep
