use Rattle.sal_routing.proofs.Ending.{by_items}
use Rattle.sal_routing.proofs.law.routing_goes_by_items.Goals as goal

pub returns : goal.returns
returns c = by_items
