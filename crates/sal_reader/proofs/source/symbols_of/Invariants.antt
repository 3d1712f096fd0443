use Rattle.std.proofs.Common.{◌≡◌, take}
use Rattle.sal_reader.specs.Source.{tokens_in}
use Rattle.sal_reader.proofs.source.symbols_of.Given as goal

abbrev pub invariant-tokens : goal.invariant-tokens
invariant-tokens l = l.symbols ≡ tokens_in l.tokens.source.now (take l.i l.tokens.items)
