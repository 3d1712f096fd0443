use Rattle.std.proofs.Common.{◌≡◌, take, map}
use Rattle.sal_handler.specs.Values.{int_of}
use Rattle.sal_walk.proofs.actions.ints.Given as goal

abbrev pub invariant-loop-value : goal.invariant-loop-value
invariant-loop-value l = l.ints ≡ map int_of (take l.value-index l.values)
