use Rattle.sal_envelope.specs.Decoding.{call_at}
use Rattle.sal_resident.specs.Unpacking.{each_at}
use Rattle.sal_resident.proofs.Rows.{goes_on}
use Rattle.sal_resident.proofs.reading.each_call.Goals as goal

pub loop-preserved : goal.loop-preserved
loop-preserved c =
    rw c.in_ok-push.ensures.ok (goes_on {S = Unit {0}} (λ x. tt) (λ before. call_at) tt c.loop.calls c.args.count c.loop.counter c.loop.rest.now c.in_ok-message.message c.in_ok-message.after.now
    (each_at call_at c.args.count c.args.bytes.now) c.loop-test.true c.in_ok-message.ensures c.loop.invariant)
