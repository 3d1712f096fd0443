use Rattle.sal_effects.proofs.Ranging.{keep_ranges}
use Rattle.sal_effects.proofs.law.handlers_keep_ranges.Goals as goal

pub returns : goal.returns
returns c = keep_ranges
