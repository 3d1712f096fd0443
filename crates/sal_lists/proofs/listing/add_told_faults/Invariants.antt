use Rattle.std.proofs.Common.{◌≡◌, ◌++◌, drop, filter}
use Rattle.sal_world.specs.Lists as spec
use Rattle.sal_lists.proofs.listing.add_told_faults.Given as goal

abbrev pub invariant-loop-fault : goal.invariant-loop-fault
invariant-loop-fault l = l.faults ++ filter (λ f. spec.is_listed_when_told f.kind) (drop l.fault-index l.told) ≡ l.fn.faults ++ filter (λ f. spec.is_listed_when_told f.kind) l.told
