use Rattle.sal_types.proofs.Known.{have_signatures}
use Rattle.sal_types.proofs.law.handlers_have_signatures.Goals as goal

pub returns : goal.returns
returns c = have_signatures
