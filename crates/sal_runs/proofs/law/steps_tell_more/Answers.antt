use Rattle.sal_runs.proofs.Telling.{tell_more}
use Rattle.sal_runs.proofs.law.steps_tell_more.Goals as goal

pub returns : goal.returns
returns c = tell_more
