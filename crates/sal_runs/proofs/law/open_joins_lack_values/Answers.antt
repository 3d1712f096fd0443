use Rattle.sal_runs.proofs.Open.{all_lack}
use Rattle.sal_runs.proofs.law.open_joins_lack_values.Goals as goal

pub returns : goal.returns
returns c = all_lack
