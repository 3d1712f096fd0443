use Rattle.sal_runs.proofs.Gives.{give_once}
use Rattle.sal_runs.proofs.law.joins_give_once.Goals as goal

pub returns : goal.returns
returns c = give_once
