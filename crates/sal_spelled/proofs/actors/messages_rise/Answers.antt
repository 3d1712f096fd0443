use Rattle.std.proofs.Common.{sym, ◌∙◌}
use Rattle.sal_spelled.proofs.Rising.{rise_goes_on}
use Rattle.sal_spelled.proofs.actors.messages_rise.Goals as goal

pub loop-message-preserved : goal.loop-message-preserved
loop-message-preserved c =
    rise_goes_on (λ m. m.serial) c.args.messages.now c.loop-message.message-index c.message-item.result c.loop-message.before c.loop-message-test.true c.message-item.is
    (sym c.is_above.ensures ∙ c.if-not-is_above.false) c.loop-message.invariant
