use Rattle.sal_routing.proofs.Clocks.{clocks_idle}
use Rattle.sal_routing.proofs.law.idle_clocks_change_nothing.Goals as goal

pub returns : goal.returns
returns c = clocks_idle
