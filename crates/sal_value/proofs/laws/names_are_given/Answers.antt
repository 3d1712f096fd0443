use Rattle.sal_value.proofs.Given.{names_are_given}
use Rattle.sal_value.proofs.laws.names_are_given.Goals as goal

pub returns : goal.returns
returns c = names_are_given
