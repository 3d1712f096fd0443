use Rattle.std.proofs.Common.{rules}
use Rattle.sal_tour.proofs.Listing.{on}
use Rattle.sal_tour.proofs.plan.theatres.Goals as goal

pub loop-at-preserved : goal.loop-at-preserved
loop-at-preserved c =
    on _ c.loop-at.found c.push.new.self 8 c.loop-at.at 4040 c.loop-at-test.true c.loop-at.invariant (search rules)
