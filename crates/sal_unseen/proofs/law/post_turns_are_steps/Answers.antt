use Rattle.sal_unseen.proofs.Steps.{posts_are_steps}
use Rattle.sal_unseen.proofs.law.post_turns_are_steps.Goals as goal

pub returns : goal.returns
returns c = posts_are_steps
