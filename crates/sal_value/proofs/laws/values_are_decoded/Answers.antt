use Rattle.sal_value.proofs.Again.{again_value}
use Rattle.sal_value.proofs.Found.{found_value}
use Rattle.sal_value.proofs.laws.values_are_decoded.Goals as goal

pub returns : goal.returns
returns c = record { found = found_value; again = again_value }
