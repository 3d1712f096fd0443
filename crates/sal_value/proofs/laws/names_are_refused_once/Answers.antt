use Rattle.sal_value.proofs.Refusals.{names_are_refused_once}
use Rattle.sal_value.proofs.laws.names_are_refused_once.Goals as goal

pub returns : goal.returns
returns c = names_are_refused_once
