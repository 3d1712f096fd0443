use Rattle.sal_unseen.proofs.Legal.{legal_whole}
use Rattle.sal_unseen.proofs.law.what_is_legal_is_sent_whole.Goals as goal

pub returns : goal.returns
returns c = legal_whole
