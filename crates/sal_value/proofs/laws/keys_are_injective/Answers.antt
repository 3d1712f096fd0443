use Rattle.sal_value.proofs.Keys.{same_names}
use Rattle.sal_value.proofs.laws.keys_are_injective.Goals as goal

pub returns : goal.returns
returns c = same_names
