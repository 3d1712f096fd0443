use Rattle.sal_soundness.proofs.Running.{constructors_make}
use Rattle.sal_soundness.proofs.law.constructors_make_fields.Goals as goal

pub returns : goal.returns
returns c = constructors_make
