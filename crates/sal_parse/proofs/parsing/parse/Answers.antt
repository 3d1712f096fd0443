use Rattle.std.proofs.Common.{arith}
use Rattle.sal_parse.proofs.Few.{few_tokens}
use Rattle.sal_reader.proofs.Lexemes.{tokens_are_lexemes}
use Rattle.sal_parse.proofs.parsing.parse.Goals as goal

pub read-requires-clause-few : goal.read-requires-clause-few
read-requires-clause-few c =
    rw (c.as_slice.ensures, c.in_ok-symbols.ensures)
    (omega (arith, few_tokens c.args.tokens.now.source.now c.args.tokens.now.items c.requires.covers, c.requires.short))

pub read-requires-clause-lexemes : goal.read-requires-clause-lexemes
read-requires-clause-lexemes c =
    rw (c.as_slice.ensures, c.in_ok-symbols.ensures) (tokens_are_lexemes c.args.tokens.now.source.now c.args.tokens.now.items c.requires.covers)
