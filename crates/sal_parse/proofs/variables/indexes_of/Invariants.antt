use Rattle.std.proofs.Common.{◌≡◌}
use Rattle.sal_grammar.specs.Statements.{indexes_of}
use Rattle.sal_parse.proofs.variables.indexes_of.Given as goal

abbrev pub invariant-suffixes : goal.invariant-suffixes
invariant-suffixes l = l.indexes ≡ indexes_of l.yielded
