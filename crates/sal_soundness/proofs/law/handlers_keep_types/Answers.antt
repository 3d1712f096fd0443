use Rattle.sal_soundness.proofs.Running.{accepted_keep}
use Rattle.sal_soundness.proofs.law.handlers_keep_types.Goals as goal

pub returns : goal.returns
returns c = accepted_keep
