use Rattle.sal_envelope.proofs.EnvelopesAgain.{spelled_decoded}
use Rattle.sal_envelope.proofs.law.spelled_envelopes_are_decoded.Goals as goal

pub returns : goal.returns
returns c = spelled_decoded
