use Rattle.sal_reader.proofs.Lexemes.{tokens_are_lexemes}
use Rattle.sal_reader.proofs.law.tokens_are_lexemes.Goals as goal

pub returns : goal.returns
returns c = tokens_are_lexemes
