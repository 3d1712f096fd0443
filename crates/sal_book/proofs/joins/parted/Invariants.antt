use Rattle.std.proofs.Common.{◌≡◌}
use Rattle.std.specs.Prelude.{filter}
use Rattle.sal_book.specs.Book.{is_open, full_replies}
use Rattle.sal_book.proofs.joins.parted.Given as goal

abbrev pub invariant-loop-join : goal.invariant-loop-join
invariant-loop-join l = record {
  replies : l.replies ≡ full_replies l.yielded;
  still_open : l.still_open.items ≡ filter is_open l.yielded;
}
