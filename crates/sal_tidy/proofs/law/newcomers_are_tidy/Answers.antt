use Rattle.sal_tidy.proofs.Keeping.{newcomers}
use Rattle.sal_tidy.proofs.law.newcomers_are_tidy.Goals as goal

pub returns : goal.returns
returns c = newcomers
