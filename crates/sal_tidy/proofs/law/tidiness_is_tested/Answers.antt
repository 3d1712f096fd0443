use Rattle.sal_tidy.proofs.Testing.{tested}
use Rattle.sal_tidy.proofs.law.tidiness_is_tested.Goals as goal

pub returns : goal.returns
returns c = tested
