use Rattle.std.proofs.Common.{◌≡◌, ◌++◌, drop, filter}
use Rattle.sal_mail.specs.Message.{is_for}
use Rattle.sal_desk.proofs.messages.add_calls_from.Given as goal

abbrev pub invariant-loop-at : goal.invariant-loop-at
invariant-loop-at l = l.calls ++ filter (is_for l.name) (drop l.at l.messages.items) ≡ l.fn.calls ++ filter (is_for l.name) (drop l.start l.messages.items)
