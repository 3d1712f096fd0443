use Rattle.sal_routing.proofs.Quiet.{change_little}
use Rattle.sal_routing.proofs.law.unwanted_datagrams_change_little.Goals as goal

pub returns : goal.returns
returns c = change_little
