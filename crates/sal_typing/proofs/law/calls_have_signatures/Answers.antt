use Rattle.sal_typing.proofs.Calls.{calls_have_signatures}
use Rattle.sal_typing.proofs.law.calls_have_signatures.Goals as goal

pub returns : goal.returns
returns c = calls_have_signatures
