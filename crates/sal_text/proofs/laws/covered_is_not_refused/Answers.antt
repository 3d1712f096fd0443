use Rattle.sal_text.proofs.OneAnswer.{none_of_both}
use Rattle.sal_text.proofs.laws.covered_is_not_refused.Goals as goal

pub returns : goal.returns
returns c = none_of_both
