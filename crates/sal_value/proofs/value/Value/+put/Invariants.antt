use Rattle.std.proofs.Common.{◌≡◌, ◌++◌, drop}
use Rattle.std.specs.List.{flat_map}
use Rattle.sal_value.specs.Spelling.{spelling}
use Rattle.sal_value.proofs.value.Value.+put.Given as goal

abbrev pub invariant-loop-item : goal.invariant-loop-item
invariant-loop-item l = l.out ++ flat_map spelling (drop l.item-index l.item-items) ≡ l.fn.out ++ spelling l.fn.self
