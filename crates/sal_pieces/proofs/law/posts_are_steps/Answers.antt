use Rattle.sal_pieces.proofs.Stepping.{posts_step}
use Rattle.sal_pieces.proofs.law.posts_are_steps.Goals as goal

pub returns : goal.returns
returns c = posts_step
