use Rattle.std.proofs.Common.{◌≡◌, ◌+◌, ◌≤◌, ◌++◌, length}
use Rattle.std.specs.Vec.Iter.{into_iter_items, into_iter_len}
use Rattle.std.specs.VecDeque.{deque_len, deque_capacity}
use Rattle.sal_carriage.proofs.fragment.Fragments.append.Given as goal

abbrev pub invariant-loop-fragment : goal.invariant-loop-fragment
invariant-loop-fragment l =
    (l.self-inside.items.items ++ into_iter_items l.fragment-iterator ≡ l.fn.self ++ l.fn.more)
    × (into_iter_len l.fragment-iterator ≡ length (into_iter_items l.fragment-iterator))
    × (deque_len l.self-inside.items + length (into_iter_items l.fragment-iterator) ≤ deque_capacity l.self-inside.items)
