use Rattle.sal_spelled.proofs.Parcels.{light_is_sent}
use Rattle.sal_spelled.proofs.law.light_actors_may_be_sent.Goals as goal

pub returns : goal.returns
returns c = light_is_sent
