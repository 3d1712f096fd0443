use Rattle.std.proofs.Common.{◌≡◌, ◌-◌}
use Rattle.sal_value.specs.Decoding.{items_at, value_at}
use Rattle.sal_value.proofs.Items.{arrayed}
use Rattle.sal_value.proofs.decode.+value.Given as goal

abbrev pub decreases-value : goal.decreases-value
decreases-value l = l.depth

abbrev pub invariant-loop : goal.invariant-loop
invariant-loop l = arrayed l.items (items_at (value_at (l.fn.depth - 1)) (l.count - l.counter) l.rest) ≡ value_at l.fn.depth l.fn.bytes
