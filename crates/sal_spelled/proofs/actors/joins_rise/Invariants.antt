use Rattle.std.proofs.Common.{◌≡◌, map, drop}
use Rattle.sal_book.specs.Book.{rise, join_numbers}
use Rattle.sal_spelled.proofs.Rising.{rise_after}
use Rattle.sal_spelled.proofs.actors.joins_rise.Given as goal

abbrev pub invariant-loop-join : goal.invariant-loop-join
invariant-loop-join l = rise_after l.before (map (λ m. m.number) (drop l.join-index l.joins)) ≡ rise (join_numbers l.joins)
