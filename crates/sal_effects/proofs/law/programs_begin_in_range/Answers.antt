use Rattle.sal_effects.proofs.Ranging.{begin_in_range}
use Rattle.sal_effects.proofs.law.programs_begin_in_range.Goals as goal

pub returns : goal.returns
returns c = begin_in_range
