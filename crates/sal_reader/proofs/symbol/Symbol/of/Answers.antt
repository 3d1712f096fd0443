use Rattle.sal_grammar.specs.Tokens.{class_of}
use Rattle.sal_reader.proofs.Ascii.{token_utf8}
use Rattle.sal_reader.proofs.symbol.Symbol.of.Goals as goal

pub invariant_of-result : goal.invariant_of-result
unfolding class_of
invariant_of-result c = record {
  class = c.class_of.ensures;
  utf8 = token_utf8 c.args.source.now c.args.token.now c.requires.utf8 c.requires.stands;
  form = c.requires.stands.form;
  lexeme = c.requires.stands.lexeme;
}
