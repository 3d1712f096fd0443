use Rattle.sal_literals.proofs.Found as found
use Rattle.sal_literals.proofs.laws.printed_values_are_read.Goals as goal

pub returns : goal.returns
returns c = found.printed_values_are_read
