use Rattle.std.proofs.Common.{◌≡◌, ◌++◌, drop}
use Rattle.std.specs.List.{flat_map}
use Rattle.sal_resident.specs.Packing.{slot_spelling}
use Rattle.sal_resident.proofs.writing.put_each_slot.Given as goal

abbrev pub invariant-loop-slot : goal.invariant-loop-slot
invariant-loop-slot l = l.out ++ flat_map slot_spelling (drop l.slot-index l.slots) ≡ l.fn.out ++ flat_map slot_spelling l.fn.slots
