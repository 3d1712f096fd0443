use Rattle.std.proofs.Common.{◌≡◌, ◌+◌, ◌≤◌, ◌++◌}
use Rattle.std.specs.Prelude.{filter}
use Rattle.std.specs.Vec.{vec_len, vec_capacity}
use Rattle.std.specs.VecDeque.{deque_len, deque_capacity}
use Rattle.sal_mail.specs.Message.{is_for, is_not_for}
use Rattle.sal_mail.proofs.ready.part.Given as goal

abbrev pub invariant-loop-message : goal.invariant-loop-message
invariant-loop-message l = record {
  taken : l.taken.items ++ filter (is_for l.name) l.items.items ≡ l.fn.taken.items ++ filter (is_for l.name) l.fn.items.items;
  others : l.others.items ++ filter (is_not_for l.name) l.items.items ≡ l.fn.others.items ++ filter (is_not_for l.name) l.fn.items.items;
  room : vec_len l.taken + deque_len l.items ≤ vec_capacity l.taken;
  room_2 : deque_len l.others + deque_len l.items ≤ deque_capacity l.others;
}

abbrev pub decreases-loop-message : goal.decreases-loop-message
decreases-loop-message l = deque_len l.items
