use Rattle.sal_soundness.proofs.Running.{accepted_fit}
use Rattle.sal_soundness.proofs.law.runs_fit.Goals as goal

pub returns : goal.returns
returns c = accepted_fit
