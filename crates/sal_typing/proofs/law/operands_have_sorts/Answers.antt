use Rattle.sal_typing.proofs.Fitting.{operands_have_sorts}
use Rattle.sal_typing.proofs.law.operands_have_sorts.Goals as goal

pub returns : goal.returns
returns c = operands_have_sorts
