use Rattle.sal_literals.proofs.Found as found
use Rattle.sal_literals.proofs.laws.values_have_own_texts.Goals as goal

pub returns : goal.returns
returns c = found.values_have_own_texts
