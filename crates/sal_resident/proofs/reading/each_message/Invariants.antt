use Rattle.std.proofs.Common.{◌≡◌, ◌-◌, Some}
use Rattle.sal_mail.specs.declared.message.Message.{Message}
use Rattle.sal_resident.specs.Unpacking.{each_from, each_numbered_at, message_at}
use Rattle.sal_resident.proofs.Rows.{after_items}
use Rattle.sal_resident.proofs.reading.each_message.Given as goal

abbrev pub invariant-loop : goal.invariant-loop
invariant-loop l =
    after_items l.messages (each_from (λ (x : Message). Some x.serial) message_at l.before (l.count - l.counter) l.rest) ≡ each_numbered_at (λ (x : Message). x.serial) message_at l.fn.count l.fn.bytes
