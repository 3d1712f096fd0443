use Rattle.sal_unseen.proofs.Parts.{letters_unseen}
use Rattle.sal_unseen.proofs.law.letters_are_unseen.Goals as goal

pub returns : goal.returns
returns c = letters_unseen
