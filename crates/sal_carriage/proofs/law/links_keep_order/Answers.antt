use Rattle.sal_carriage.proofs.Agreeing.{keep_order}
use Rattle.sal_carriage.proofs.law.links_keep_order.Goals as goal

pub returns : goal.returns
returns c = keep_order
