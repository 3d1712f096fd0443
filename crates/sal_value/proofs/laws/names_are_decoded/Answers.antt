use Rattle.sal_value.proofs.Again.{again_name}
use Rattle.sal_value.proofs.Found.{found_name}
use Rattle.sal_value.proofs.laws.names_are_decoded.Goals as goal

pub returns : goal.returns
returns c = record { found = found_name; again = again_name }
