use Rattle.std.proofs.Common.{◌≡◌, ◌+◌, ◌++◌, length}
use Rattle.std.specs.Prelude.{reverse}
use Rattle.std.specs.FinMap as fm
use Rattle.sal_source.specs.Give.{settle_all, settle_all_answers}
use Rattle.sal_source.proofs.waiting.Waiting.settle.Given as goal

abbrev pub invariant-loop-reply : goal.invariant-loop-reply
invariant-loop-reply l = record {
  same : settle_all (reverse l.left) l.self ≡ settle_all (reverse l.fn.replies) l.fn.self;
  told : l.answers ++ settle_all_answers (reverse l.left) l.self ≡ l.fn.answers ++ settle_all_answers (reverse l.fn.replies) l.fn.self;
}

abbrev pub decreases-loop-reply : goal.decreases-loop-reply
decreases-loop-reply l = length l.left + fm.len l.self.joins
