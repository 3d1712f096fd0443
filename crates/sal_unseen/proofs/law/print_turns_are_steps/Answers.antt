use Rattle.sal_unseen.proofs.Steps.{prints_are_steps}
use Rattle.sal_unseen.proofs.law.print_turns_are_steps.Goals as goal

pub returns : goal.returns
returns c = prints_are_steps
