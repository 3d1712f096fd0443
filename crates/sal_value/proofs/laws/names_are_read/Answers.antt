use Rattle.sal_value.proofs.Readings.{names_are_read}
use Rattle.sal_value.proofs.laws.names_are_read.Goals as goal

pub returns : goal.returns
returns c = names_are_read
