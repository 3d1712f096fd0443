use Rattle.std.proofs.Common.{◌≡◌, replicate, None}
use Rattle.sal_state.proofs.joins.empty_slots.Given as goal

abbrev pub invariant-loop-slot : goal.invariant-loop-slot
invariant-loop-slot l = l.slots ≡ replicate l._slot None
