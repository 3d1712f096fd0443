use Rattle.sal_resident.specs.Unpacking.{each_at, slot_at}
use Rattle.sal_resident.proofs.Rows.{goes_on}
use Rattle.sal_resident.proofs.reading.each_slot.Goals as goal

pub loop-preserved : goal.loop-preserved
loop-preserved c =
    rw c.in_ok-push.ensures.ok (goes_on {S = Unit {0}} (λ x. tt) (λ before. slot_at) tt c.loop.slots c.args.count c.loop.counter c.loop.rest.now c.in_ok-slot.slot c.in_ok-slot.after.now
    (each_at slot_at c.args.count c.args.bytes.now) c.loop-test.true c.in_ok-slot.ensures c.loop.invariant)
