use Rattle.std.proofs.Common.{◌≡◌, take}
use Rattle.sal_value.proofs.value.Value.+clone_in.Given as goal

abbrev pub invariant-loop-item : goal.invariant-loop-item
invariant-loop-item l = l.copies ≡ take l.item-index l.item-items
