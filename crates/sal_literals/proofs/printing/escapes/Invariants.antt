use Rattle.std.proofs.Common.{◌≡◌, ◌++◌, drop}
use Rattle.std.specs.List.{flat_map}
use Rattle.sal_literals.specs.Texts.{escape}
use Rattle.sal_literals.proofs.printing.escapes.Given as goal

abbrev pub invariant-loop-byte : goal.invariant-loop-byte
invariant-loop-byte l = l.bytes ++ flat_map escape (drop l.byte-index l.text) ≡ flat_map escape l.fn.text
