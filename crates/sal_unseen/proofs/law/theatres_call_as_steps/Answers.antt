use Rattle.sal_unseen.proofs.Calls.{call_as_steps}
use Rattle.sal_unseen.proofs.law.theatres_call_as_steps.Goals as goal

pub returns : goal.returns
returns c = call_as_steps
