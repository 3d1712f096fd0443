use Rattle.std.proofs.Common.{◌≡◌, ◌-◌}
use Rattle.sal_literals.specs.Reading.{items_at, value_at}
use Rattle.sal_literals.specs.code.Reads.{names_by}
use Rattle.sal_literals.proofs.Items.{arrayed}
use Rattle.sal_literals.proofs.reading.+value.Given as goal

abbrev pub decreases-value : goal.decreases-value
decreases-value l = l.depth

abbrev pub invariant-loop : goal.invariant-loop
invariant-loop l = arrayed l.items (items_at (value_at (names_by l.fn.names) (l.fn.depth - 1)) (l.most - l.counter) l.rest) ≡ value_at (names_by l.fn.names) l.fn.depth l.fn.bytes
