use Rattle.sal_effects.proofs.Spelling.{begin_legally}
use Rattle.sal_effects.proofs.law.programs_begin_legally.Goals as goal

pub returns : goal.returns
returns c = begin_legally
