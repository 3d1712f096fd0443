use Rattle.std.proofs.Common.{◌≡◌, ◌-◌}
use Rattle.sal_envelope.specs.Decoding.{call_at}
use Rattle.sal_resident.specs.Unpacking.{each_at}
use Rattle.sal_resident.proofs.Rows.{after_items}
use Rattle.sal_resident.proofs.reading.each_call.Given as goal

abbrev pub invariant-loop : goal.invariant-loop
invariant-loop l = after_items l.calls (each_at call_at (l.count - l.counter) l.rest) ≡ each_at call_at l.fn.count l.fn.bytes
