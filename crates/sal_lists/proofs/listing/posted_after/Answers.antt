use Rattle.std.proofs.Common.{arith}
use Rattle.sal_world.specs.Lists as spec
use Rattle.sal_lists.proofs.Telling.{posted_step, posted_end}
use Rattle.sal_lists.proofs.listing.posted_after.Goals as goal

pub loop-step-preserved : goal.loop-step-preserved
loop-step-preserved c =
    posted_step c.args.log.now c.loop-step.step-index c.step-item.result c.loop-step.posted c.posted_by-posted.result (spec.posted_after c.args.last c.args.log.now)
    c.loop-step-test.true c.step-item.is c.posted_by-posted.ensures c.loop-step.invariant

pub returns : goal.returns
returns c = posted_end c.args.log.now c.loop-step.step-index c.loop-step.posted (spec.posted_after c.args.last c.args.log.now) (omega (arith, c.loop-step-test.false)) c.loop-step.invariant
