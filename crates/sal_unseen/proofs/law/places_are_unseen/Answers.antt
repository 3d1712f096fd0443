use Rattle.sal_unseen.proofs.Parts.{places_unseen}
use Rattle.sal_unseen.proofs.law.places_are_unseen.Goals as goal

pub returns : goal.returns
returns c = places_unseen
