use Rattle.sal_spelled.proofs.Parcels.{sent_is_parcel}
use Rattle.sal_spelled.proofs.law.sent_envelopes_are_parcels.Goals as goal

pub returns : goal.returns
returns c = sent_is_parcel
