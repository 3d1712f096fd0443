use Rattle.std.proofs.Common.{◌≡◌, ◌-◌}
use Rattle.sal_resident.specs.Unpacking.{each_at, piece_at}
use Rattle.sal_resident.proofs.Rows.{after_items}
use Rattle.sal_resident.proofs.reading.each_piece.Given as goal

abbrev pub invariant-loop : goal.invariant-loop
invariant-loop l = after_items l.pieces (each_at piece_at (l.count - l.counter) l.rest) ≡ each_at piece_at l.fn.count l.fn.bytes
