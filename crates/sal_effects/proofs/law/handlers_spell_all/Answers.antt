use Rattle.sal_effects.proofs.Spelling.{spell_all}
use Rattle.sal_effects.proofs.law.handlers_spell_all.Goals as goal

pub returns : goal.returns
returns c = spell_all
