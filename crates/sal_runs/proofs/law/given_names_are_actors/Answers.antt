use Rattle.sal_runs.proofs.Sound.{names_are_actors}
use Rattle.sal_runs.proofs.law.given_names_are_actors.Goals as goal

pub returns : goal.returns
returns c = names_are_actors
