use Rattle.std.proofs.Common.{◌≡◌}
use Rattle.sal_pieces.specs.Steps.{with_opened}
use Rattle.sal_lists.proofs.settling.Settling.open_all.Given as goal

abbrev pub invariant-loop-opened : goal.invariant-loop-opened
invariant-loop-opened l = record {
  same : with_opened l.opened-iterator.iter.rest.now l.self.joins ≡ with_opened l.fn.opened l.fn.self.joins;
  before : l.self.before ≡ l.fn.self.before;
}
