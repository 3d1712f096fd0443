use Rattle.sal_runs.proofs.Gives.{give_as_they_leave}
use Rattle.sal_runs.proofs.law.joins_give_as_they_leave.Goals as goal

pub returns : goal.returns
returns c = give_as_they_leave
