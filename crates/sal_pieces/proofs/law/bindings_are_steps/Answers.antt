use Rattle.sal_pieces.proofs.Binding.{bindings_step}
use Rattle.sal_pieces.proofs.law.bindings_are_steps.Goals as goal

pub returns : goal.returns
returns c = bindings_step
