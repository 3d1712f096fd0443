use Rattle.std.proofs.Common.{◌≡◌, ◌+◌, ◌++◌, length}
use Rattle.std.specs.Prelude.{reverse}
use Rattle.std.specs.FinMap as fm
use Rattle.sal_source.specs.Give.{settle_all, settle_all_answers}
use Rattle.sal_lists.specs.code.Settling.{waiting_in}
use Rattle.sal_lists.proofs.settling.Settling.settle.Given as goal

abbrev pub invariant-loop-reply : goal.invariant-loop-reply
invariant-loop-reply l = record {
  same : settle_all (reverse l.left) (waiting_in l.self) ≡ settle_all (reverse l.fn.replies) (waiting_in l.fn.self);
  told : l.answers ++ settle_all_answers (reverse l.left) (waiting_in l.self) ≡ l.fn.answers ++ settle_all_answers (reverse l.fn.replies) (waiting_in l.fn.self);
  before : l.self.before ≡ l.fn.self.before;
}

abbrev pub decreases-loop-reply : goal.decreases-loop-reply
decreases-loop-reply l = length l.left + fm.len l.self.joins
