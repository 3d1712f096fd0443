use Rattle.sal_text.proofs.OneAnswer.{one_cover}
use Rattle.sal_text.proofs.laws.one_list_covers.Goals as goal

pub returns : goal.returns
returns c = one_cover
