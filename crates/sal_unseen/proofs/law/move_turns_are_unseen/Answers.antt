use Rattle.sal_unseen.proofs.Turns.{move_turns}
use Rattle.sal_unseen.proofs.law.move_turns_are_unseen.Goals as goal

pub returns : goal.returns
returns c = move_turns
