use Rattle.sal_transit.proofs.Beginning.{are_silent}
use Rattle.sal_transit.proofs.law.new_worlds_are_silent.Goals as goal

pub returns : goal.returns
returns c = are_silent
