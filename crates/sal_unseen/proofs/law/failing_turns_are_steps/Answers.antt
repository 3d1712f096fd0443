use Rattle.sal_unseen.proofs.Steps.{failures_are_steps}
use Rattle.sal_unseen.proofs.law.failing_turns_are_steps.Goals as goal

pub returns : goal.returns
returns c = failures_are_steps
