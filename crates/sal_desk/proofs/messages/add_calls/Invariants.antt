use Rattle.std.proofs.Common.{◌≡◌, ◌++◌, drop, filter}
use Rattle.sal_mail.specs.Message.{is_for}
use Rattle.sal_desk.proofs.messages.add_calls.Given as goal

abbrev pub invariant-loop-message : goal.invariant-loop-message
invariant-loop-message l = l.calls ++ filter (is_for l.name) (drop l.message-index l.messages) ≡ l.fn.calls ++ filter (is_for l.name) l.messages
