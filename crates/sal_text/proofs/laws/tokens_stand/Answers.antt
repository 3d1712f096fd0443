use Rattle.sal_text.proofs.Stood.{tokens_stand}
use Rattle.sal_text.proofs.laws.tokens_stand.Goals as goal

pub returns : goal.returns
returns c = tokens_stand
