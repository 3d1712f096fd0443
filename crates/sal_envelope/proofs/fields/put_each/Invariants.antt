use Rattle.std.proofs.Common.{◌≡◌, ◌++◌, drop}
use Rattle.std.specs.List.{flat_map}
use Rattle.sal_value.specs.Spelling.{spelling}
use Rattle.sal_envelope.proofs.fields.put_each.Given as goal

abbrev pub invariant-loop-value : goal.invariant-loop-value
invariant-loop-value l = l.out ++ flat_map spelling (drop l.value-index l.values) ≡ l.fn.out ++ flat_map spelling l.fn.values
