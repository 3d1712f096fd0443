use Rattle.sal_unseen.proofs.Parts.{placed_unseen}
use Rattle.sal_unseen.proofs.law.new_actors_are_placed_unseen.Goals as goal

pub returns : goal.returns
returns c = placed_unseen
