use Rattle.std.specs.Int.{w64}
use Rattle.sal_envelope.specs.Decoding.{number_at}
use Rattle.sal_resident.specs.Unpacking.{each_at}
use Rattle.sal_resident.proofs.Rows.{goes_on}
use Rattle.sal_resident.proofs.reading.each_number.Goals as goal

pub loop-preserved : goal.loop-preserved
loop-preserved c =
    rw c.in_ok-push.ensures.ok (goes_on {S = Unit {0}} (λ x. tt) (λ before. (number_at w64)) tt c.loop.numbers c.args.count c.loop.counter c.loop.rest.now c.in_ok-number.number c.in_ok-number.after.now
    (each_at (number_at w64) c.args.count c.args.bytes.now) c.loop-test.true c.in_ok-number.ensures c.loop.invariant)
