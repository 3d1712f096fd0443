use Rattle.sal_soundness.proofs.Running.{accepted_begin}
use Rattle.sal_soundness.proofs.law.programs_begin_typed.Goals as goal

pub returns : goal.returns
returns c = accepted_begin
