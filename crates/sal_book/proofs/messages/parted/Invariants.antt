use Rattle.std.proofs.Common.{◌≡◌}
use Rattle.std.specs.Prelude.{filter}
use Rattle.sal_mail.specs.Message.{is_ready}
use Rattle.sal_book.specs.Book.{is_waiting}
use Rattle.sal_book.proofs.messages.parted.Given as goal

abbrev pub invariant-loop-message : goal.invariant-loop-message
invariant-loop-message l = record {
  ready : l.ready ≡ filter is_ready l.yielded;
  waiting : l.waiting.items ≡ filter is_waiting l.yielded;
}
