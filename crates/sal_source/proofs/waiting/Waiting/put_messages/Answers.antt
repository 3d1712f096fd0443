use Rattle.std.proofs.Common.{ap, sym, ◌∙◌}
use Rattle.sal_source.specs.Configuration.{Waiting}
use Rattle.sal_source.specs.Step.{put_messages}
use Rattle.sal_source.proofs.Waits.{put_messages_push}
use Rattle.sal_source.proofs.waiting.Waiting.put_messages.Goals as goal

pub loop-message-preserved : goal.loop-message-preserved
loop-message-preserved c = record {
  same =
      ap (λ (w : Waiting). put_messages c.pop.new.self w.messages) c.in_ok-put_message.ensures.ok
      ∙ sym (put_messages_push c.pop.new.self c.in-Some.message c.loop-message.self.messages)
      ∙ ap (λ l. put_messages l c.loop-message.self.messages) (sym c.in-Some.ensures)
      ∙ c.loop-message.invariant.same;
  joins = ap (λ (w : Waiting). w.joins) c.in_ok-put_message.ensures.ok ∙ c.loop-message.invariant.joins;
}
