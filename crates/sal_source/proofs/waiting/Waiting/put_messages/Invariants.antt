use Rattle.std.proofs.Common.{◌≡◌, length}
use Rattle.sal_source.specs.Step.{put_messages}
use Rattle.sal_source.proofs.waiting.Waiting.put_messages.Given as goal

abbrev pub invariant-loop-message : goal.invariant-loop-message
invariant-loop-message l = record {
  same : put_messages l.left l.self.messages ≡ put_messages l.fn.messages l.fn.self.messages;
  joins : l.self.joins ≡ l.fn.self.joins;
}

abbrev pub decreases-loop-message : goal.decreases-loop-message
decreases-loop-message l = length l.left
