use Rattle.std.proofs.Common.{◌≡◌, ◌++◌, take, filter}
use Rattle.sal_mail.specs.Message.{is_for}
use Rattle.sal_desk.proofs.messages.add_calls_before.Given as goal

abbrev pub invariant-loop-at : goal.invariant-loop-at
invariant-loop-at l = l.calls ≡ l.fn.calls ++ filter (is_for l.name) (take l.at l.messages.items)
