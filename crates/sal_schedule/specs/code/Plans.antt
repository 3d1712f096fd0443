-- What is asked of a plan, and what one event's reader answers.
use Rattle.std.specs.Prelude.{◌≡◌, ℕ, ◌≤◌, length, Option, Some, None, Result, Ok, Err}
use Rattle.sal_mail.specs.declared.plan.Plan.{Plan}
use Rattle.sal_events.specs.declared.event.Event.{Event}
use Rattle.sal_schedule.specs.declared.fault.LineFault.{LineFault}
use Rattle.sal_schedule.specs.declared.fault.LineFault.TheVariants as fault

-- at most 8 theatres, and at most 4 naming services
pub record HasRoom (plan : Plan) : Type 0 where
  pub theatres : length plan.theatres ≤ 8
  pub services : length plan.names ≤ 4

-- the event where no rule is broken, and else the lowest that is, unless memory ran out
abbrev pub Tells : Option ℕ → Option Event → Result Event LineFault → Type 0
Tells broken event (Ok e) = (broken ≡ None) × (event ≡ Some e)
Tells broken event (Err (fault.Refused rule)) = broken ≡ Some rule
Tells broken event (Err fault.Memory) = Unit {0}
