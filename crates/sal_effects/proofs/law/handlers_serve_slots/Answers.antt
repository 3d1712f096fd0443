use Rattle.sal_effects.proofs.Serving.{serve_slots}
use Rattle.sal_effects.proofs.law.handlers_serve_slots.Goals as goal

pub returns : goal.returns
returns c = serve_slots
