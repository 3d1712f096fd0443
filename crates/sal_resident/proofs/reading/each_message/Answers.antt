use Rattle.std.proofs.Common.{Some}
use Rattle.sal_mail.specs.declared.message.Message.{Message}
use Rattle.sal_resident.specs.Unpacking.{each_numbered_at, message_at}
use Rattle.sal_resident.proofs.Rows.{goes_on}
use Rattle.sal_resident.proofs.reading.each_message.Goals as goal

pub loop-preserved : goal.loop-preserved
loop-preserved c =
    rw c.in_ok-push.ensures.ok (goes_on (λ (x : Message). Some x.serial) message_at c.loop.before c.loop.messages c.args.count c.loop.counter c.loop.rest.now c.in_ok-message.message c.in_ok-message.after.now
    (each_numbered_at (λ (x : Message). x.serial) message_at c.args.count c.args.bytes.now) c.loop-test.true c.in_ok-message.ensures c.loop.invariant)
