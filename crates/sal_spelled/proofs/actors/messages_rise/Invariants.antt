use Rattle.std.proofs.Common.{◌≡◌, map, drop}
use Rattle.sal_book.specs.Book.{rise, message_numbers}
use Rattle.sal_spelled.proofs.Rising.{rise_after}
use Rattle.sal_spelled.proofs.actors.messages_rise.Given as goal

abbrev pub invariant-loop-message : goal.invariant-loop-message
invariant-loop-message l = rise_after l.before (map (λ m. m.serial) (drop l.message-index l.messages)) ≡ rise (message_numbers l.messages)
