use Rattle.sal_unseen.proofs.Steps.{handlers_are_steps}
use Rattle.sal_unseen.proofs.law.handler_turns_are_steps.Goals as goal

pub returns : goal.returns
returns c = handlers_are_steps
