use Rattle.sal_pieces.proofs.Answers.{owe_once}
use Rattle.sal_pieces.proofs.law.things_owe_once.Goals as goal

pub returns : goal.returns
returns c = owe_once
