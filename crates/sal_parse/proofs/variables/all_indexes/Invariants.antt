use Rattle.std.proofs.Common.{◌≡◌, drop}
use Rattle.sal_grammar.specs.Statements.{all_indexes}
use Rattle.sal_parse.proofs.variables.all_indexes.Given as goal

abbrev pub invariant-suffixes : goal.invariant-suffixes
invariant-suffixes l = all_indexes l.found ≡ all_indexes (drop l.i l.found)
