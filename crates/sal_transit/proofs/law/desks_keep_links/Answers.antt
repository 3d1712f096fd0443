use Rattle.sal_transit.proofs.Desks.{keep_links}
use Rattle.sal_transit.proofs.law.desks_keep_links.Goals as goal

pub returns : goal.returns
returns c = keep_links
