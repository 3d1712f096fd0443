use Rattle.sal_resident.proofs.Again.{packed_unpacked}
use Rattle.sal_resident.proofs.law.packed_actors_are_unpacked.Goals as goal

pub returns : goal.returns
returns c = packed_unpacked
