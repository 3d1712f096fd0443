use Rattle.std.proofs.Common.{◌≡◌, ◌+◌, ◌≤◌, ◌++◌, length}
use Rattle.std.specs.Prelude.{filter}
use Rattle.std.specs.Vec.{vec_len, vec_capacity}
use Rattle.sal_mail.specs.Message.{is_ready}
use Rattle.sal_book.specs.Book.{is_waiting}
use Rattle.sal_book.specs.code.Versions.{newest}
use Rattle.sal_book.proofs.messages.part.Given as goal

abbrev pub invariant-loop-message : goal.invariant-loop-message
invariant-loop-message l = record {
  ready : l.ready.items ++ filter is_ready (newest l.message-iterator.rest.items l.versions.items) ≡ l.fn.ready.items ++ filter is_ready (newest l.fn.messages.items l.fn.versions.items);
  waiting : l.waiting.items ++ filter is_waiting (newest l.message-iterator.rest.items l.versions.items) ≡ l.fn.waiting.items ++ filter is_waiting (newest l.fn.messages.items l.fn.versions.items);
  room : vec_len l.ready + length l.message-iterator.rest.items ≤ vec_capacity l.ready;
  room_2 : vec_len l.waiting + length l.message-iterator.rest.items ≤ vec_capacity l.waiting;
}
