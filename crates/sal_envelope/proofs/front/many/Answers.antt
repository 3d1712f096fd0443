use Rattle.sal_envelope.specs.Decoding.{many_at}
use Rattle.sal_envelope.proofs.Fronts.{goes_on}
use Rattle.sal_envelope.proofs.front.many.Goals as goal

pub loop-preserved : goal.loop-preserved
loop-preserved c =
    rw c.in_ok-push.ensures.ok (goes_on c.loop.values c.args.count c.loop.counter c.loop.rest.now c.in_ok-value.value c.in_ok-value.after.now
    (many_at c.args.count c.args.bytes.now) c.loop-test.true c.in_ok-value.ensures c.loop.invariant)
