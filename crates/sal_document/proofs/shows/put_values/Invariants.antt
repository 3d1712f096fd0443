use Rattle.std.proofs.Common.{◌≡◌, ◌++◌, drop, map}
use Rattle.sal_literals.specs.Texts.{value_text}
use Rattle.sal_document.specs.code.Adding.{after_spaces}
use Rattle.sal_document.proofs.shows.put_values.Given as goal

abbrev pub invariant-loop-value : goal.invariant-loop-value
invariant-loop-value l = l.out ++ after_spaces (map value_text (drop l.value-index l.values)) ≡ l.fn.out ++ after_spaces (map value_text l.values)
