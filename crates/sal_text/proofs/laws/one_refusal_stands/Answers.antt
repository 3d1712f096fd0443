use Rattle.sal_text.proofs.OneAnswer.{one_refusal}
use Rattle.sal_text.proofs.laws.one_refusal_stands.Goals as goal

pub returns : goal.returns
returns c = one_refusal
