use Rattle.sal_runs.proofs.Owed.{owe_once}
use Rattle.sal_runs.proofs.law.runs_owe_once.Goals as goal

pub returns : goal.returns
returns c = owe_once
