use Rattle.sal_grammar.proofs.Reading.{trees_are_unique as it}
use Rattle.sal_grammar.proofs.law.trees_are_unique.Goals as goal

pub returns : goal.returns
returns c = it
