use Rattle.std.proofs.Common.{◌≡◌, ◌+◌, ◌-◌, ◌++◌}
use Rattle.sal_tour.specs.declared.constants.TheConstants.{FIRST_PORT, THEATRES}
use Rattle.sal_tour.specs.Plans.{theatres}
use Rattle.sal_tour.proofs.plan.theatres.Given as goal

abbrev pub invariant-loop-at : goal.invariant-loop-at
invariant-loop-at l = theatres THEATRES FIRST_PORT ≡ l.found ++ theatres (THEATRES - l.at) (FIRST_PORT + l.at)
