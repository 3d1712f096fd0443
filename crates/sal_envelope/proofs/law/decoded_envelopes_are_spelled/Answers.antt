use Rattle.sal_envelope.proofs.EnvelopesFound.{decoded_spelled}
use Rattle.sal_envelope.proofs.law.decoded_envelopes_are_spelled.Goals as goal

pub returns : goal.returns
returns c = decoded_spelled
