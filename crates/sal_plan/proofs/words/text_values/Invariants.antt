use Rattle.std.proofs.Common.{◌≡◌, map}
use Rattle.sal_value.specs.declared.value.Value.TheVariants.{Str}
use Rattle.sal_plan.proofs.words.text_values.Given as goal

abbrev pub invariant-loop-text : goal.invariant-loop-text
invariant-loop-text l = l.values ≡ map Str l.yielded
