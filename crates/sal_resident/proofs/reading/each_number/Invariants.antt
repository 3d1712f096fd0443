use Rattle.std.proofs.Common.{◌≡◌, ◌-◌}
use Rattle.std.specs.Int.{w64}
use Rattle.sal_envelope.specs.Decoding.{number_at}
use Rattle.sal_resident.specs.Unpacking.{each_at}
use Rattle.sal_resident.proofs.Rows.{after_items}
use Rattle.sal_resident.proofs.reading.each_number.Given as goal

abbrev pub invariant-loop : goal.invariant-loop
invariant-loop l = after_items l.numbers (each_at (number_at w64) (l.count - l.counter) l.rest) ≡ each_at (number_at w64) l.fn.count l.fn.bytes
