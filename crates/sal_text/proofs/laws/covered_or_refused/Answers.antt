use Rattle.sal_text.proofs.SomeAnswer.{covered_or_refused}
use Rattle.sal_text.proofs.laws.covered_or_refused.Goals as goal

pub returns : goal.returns
returns c = covered_or_refused
