use Rattle.sal_grammar.proofs.Reading.{programs_are_read as it}
use Rattle.sal_grammar.proofs.law.programs_are_read.Goals as goal

pub returns : goal.returns
returns c = it
