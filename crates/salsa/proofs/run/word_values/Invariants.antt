use Rattle.std.proofs.Common.{◌≡◌, ◌++◌, drop, map}
use Rattle.sal_value.specs.declared.value.Value.TheVariants.{Str}
use Rattle.salsa.proofs.run.word_values.Given as goal

abbrev pub invariant-loop-word : goal.invariant-loop-word
invariant-loop-word l = l.values ++ map Str (drop l.word-index l.words) ≡ map Str l.words
