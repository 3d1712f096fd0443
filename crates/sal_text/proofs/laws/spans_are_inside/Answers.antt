use Rattle.sal_text.proofs.Stood.{spans_are_inside}
use Rattle.sal_text.proofs.laws.spans_are_inside.Goals as goal

pub returns : goal.returns
returns c = spans_are_inside
