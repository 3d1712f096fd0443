use Rattle.sal_unseen.proofs.Calls.{programs_take}
use Rattle.sal_unseen.proofs.law.programs_take_names_only.Goals as goal

pub returns : goal.returns
returns c = programs_take
