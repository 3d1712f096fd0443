use Rattle.sal_typing.proofs.Statements.{chains_have_sorts}
use Rattle.sal_typing.proofs.law.chains_have_their_sorts.Goals as goal

pub returns : goal.returns
returns c = chains_have_sorts
