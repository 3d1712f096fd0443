use Rattle.std.proofs.Common.{◌≡◌, ◌≤◌, drop}
use Rattle.std.specs.VecDeque.{deque_len, deque_capacity}
use Rattle.sal_desk.specs.code.Drafts.{without_calls}
use Rattle.sal_desk.proofs.messages.drop_calls.Given as goal

abbrev pub invariant-loop-name : goal.invariant-loop-name
invariant-loop-name l = record {
  items : without_calls (drop l.name-index l.names) l.ready.items ≡ without_calls l.names l.fn.ready.items;
  len : deque_len l.ready ≤ deque_len l.fn.ready;
  capacity : deque_capacity l.ready ≡ deque_capacity l.fn.ready;
}
