use Rattle.sal_envelope.proofs.Delimited.{delimited}
use Rattle.sal_envelope.proofs.law.envelopes_are_delimited.Goals as goal

pub returns : goal.returns
returns c = delimited
