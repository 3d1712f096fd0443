use Rattle.sal_unseen.proofs.Turns.{clock_turns}
use Rattle.sal_unseen.proofs.law.clock_turns_are_unseen.Goals as goal

pub returns : goal.returns
returns c = clock_turns
