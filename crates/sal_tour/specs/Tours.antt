-- What a tour is.
use Rattle.std.specs.Prelude.{◌≡◌, ℕ}
use Rattle.sal_tour.specs.declared.constants.TheConstants.{PROGRAM}
use Rattle.sal_tour.specs.declared.tour.Tour.{Tour}
use Rattle.sal_tour.specs.Events.{tour_events}
use Rattle.sal_tour.specs.Plans.{tour_plan}

-- the tour with this number
pub record IsTour (number : ℕ) (it : Tour) : Type 0 where
  pub program : it.program ≡ PROGRAM.now
  pub plan : it.plan ≡ tour_plan
  pub events : it.events ≡ tour_events number
