use Rattle.sal_resident.proofs.Delimited.{delimited}
use Rattle.sal_resident.proofs.law.packed_actors_are_delimited.Goals as goal

pub returns : goal.returns
returns c = delimited
