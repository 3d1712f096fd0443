use Rattle.std.proofs.Common.{◌≡◌, drop}
use Rattle.salsa.specs.Memory.{held_of}
use Rattle.salsa.proofs.memory.bytes_of.Given as goal

abbrev pub invariant-loop-entry : goal.invariant-loop-entry
invariant-loop-entry l = held_of l.entries l.name ≡ held_of (drop l.entry-index l.entries) l.name
