use Rattle.sal_resident.proofs.Found.{unpacked_packed}
use Rattle.sal_resident.proofs.law.unpacked_actors_are_packed.Goals as goal

pub returns : goal.returns
returns c = unpacked_packed
