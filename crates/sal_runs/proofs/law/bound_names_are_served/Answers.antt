use Rattle.sal_runs.proofs.Sound.{bound_are_served}
use Rattle.sal_runs.proofs.law.bound_names_are_served.Goals as goal

pub returns : goal.returns
returns c = bound_are_served
