use Rattle.sal_routing.proofs.Ending as ending
use Rattle.sal_routing.proofs.law.routing_ends.Goals as goal

pub returns : goal.returns
returns c = ending.routing_ends
