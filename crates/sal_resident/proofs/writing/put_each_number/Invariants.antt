use Rattle.std.proofs.Common.{◌≡◌, ◌++◌, drop}
use Rattle.std.specs.List.{flat_map}
use Rattle.sal_envelope.specs.Spelling.{bytes_64}
use Rattle.sal_resident.proofs.writing.put_each_number.Given as goal

abbrev pub invariant-loop-number : goal.invariant-loop-number
invariant-loop-number l = l.out ++ flat_map bytes_64 (drop l.number-index l.numbers) ≡ l.fn.out ++ flat_map bytes_64 l.fn.numbers
