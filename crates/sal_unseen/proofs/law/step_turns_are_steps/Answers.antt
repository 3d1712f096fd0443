use Rattle.sal_unseen.proofs.Turns.{turns_are_steps}
use Rattle.sal_unseen.proofs.law.step_turns_are_steps.Goals as goal

pub returns : goal.returns
returns c = turns_are_steps
