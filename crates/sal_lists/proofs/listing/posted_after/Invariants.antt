use Rattle.std.proofs.Common.{◌≡◌, drop}
use Rattle.sal_world.specs.Lists as spec
use Rattle.sal_lists.proofs.listing.posted_after.Given as goal

abbrev pub invariant-loop-step : goal.invariant-loop-step
invariant-loop-step l = spec.posted_after l.posted (drop l.step-index l.log) ≡ spec.posted_after l.fn.last l.log
