use Rattle.sal_effects.proofs.Small.{stay_small}
use Rattle.sal_effects.proofs.law.handlers_stay_small.Goals as goal

pub returns : goal.returns
returns c = stay_small
