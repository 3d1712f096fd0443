use Rattle.std.proofs.Common.{◌≡◌, ◌++◌, length}
use Rattle.std.specs.Prelude.{reverse}
use Rattle.sal_source.specs.Step.{put_joins, full_join_replies}
use Rattle.sal_source.proofs.waiting.Waiting.open_all.Given as goal

abbrev pub invariant-loop-join : goal.invariant-loop-join
invariant-loop-join l = record {
  same : put_joins l.maker l.more l.self.joins ≡ put_joins l.maker l.fn.joins l.fn.self.joins;
  messages : l.self.messages ≡ l.fn.self.messages;
  gives : full_join_replies l.more ++ reverse l.left ≡ full_join_replies l.fn.joins ++ reverse l.fn.left;
}

abbrev pub decreases-loop-join : goal.decreases-loop-join
decreases-loop-join l = length l.more
