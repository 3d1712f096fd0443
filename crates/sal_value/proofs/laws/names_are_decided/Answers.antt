use Rattle.sal_value.proofs.Decided.{names_are_decided}
use Rattle.sal_value.proofs.laws.names_are_decided.Goals as goal

pub returns : goal.returns
returns c = names_are_decided
