use Rattle.sal_literals.proofs.Found as found
use Rattle.sal_literals.proofs.laws.read_values_are_printed.Goals as goal

pub returns : goal.returns
returns c = found.read_values_are_printed
