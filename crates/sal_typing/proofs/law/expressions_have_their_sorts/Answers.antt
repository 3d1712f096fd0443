use Rattle.sal_typing.proofs.Expressions.{have_sorts}
use Rattle.sal_typing.proofs.law.expressions_have_their_sorts.Goals as goal

pub returns : goal.returns
returns c = have_sorts
