use Rattle.sal_unseen.proofs.Moving.{become_work}
use Rattle.sal_unseen.proofs.law.letters_become_work.Goals as goal

pub returns : goal.returns
returns c = become_work
