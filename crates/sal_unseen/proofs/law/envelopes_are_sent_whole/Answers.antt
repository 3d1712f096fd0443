use Rattle.sal_unseen.proofs.Sending.{sent_whole}
use Rattle.sal_unseen.proofs.law.envelopes_are_sent_whole.Goals as goal

pub returns : goal.returns
returns c = sent_whole
