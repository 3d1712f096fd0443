use Rattle.std.proofs.Common.{◌≡◌, drop}
use Rattle.sal_ast.specs.Sorts.{suffixed_sort}
use Rattle.sal_infer.specs.code.Parts.{suffixes}
use Rattle.sal_infer.proofs.expressions.suffixed_sort.Given as goal

abbrev pub invariant-loop-suffix : goal.invariant-loop-suffix
invariant-loop-suffix l = suffixed_sort l.sort (suffixes (drop l.suffix-index l.rest)) ≡ suffixed_sort l.fn.first (suffixes l.rest)
