use Rattle.sal_runs.proofs.Sound.{stay_sound}
use Rattle.sal_runs.proofs.law.runs_stay_sound.Goals as goal

pub returns : goal.returns
returns c = stay_sound
