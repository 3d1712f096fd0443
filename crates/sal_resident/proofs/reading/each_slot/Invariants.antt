use Rattle.std.proofs.Common.{◌≡◌, ◌-◌}
use Rattle.sal_resident.specs.Unpacking.{each_at, slot_at}
use Rattle.sal_resident.proofs.Rows.{after_items}
use Rattle.sal_resident.proofs.reading.each_slot.Given as goal

abbrev pub invariant-loop : goal.invariant-loop
invariant-loop l = after_items l.slots (each_at slot_at (l.count - l.counter) l.rest) ≡ each_at slot_at l.fn.count l.fn.bytes
