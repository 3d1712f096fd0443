use Rattle.std.proofs.Common.{◌≡◌, ◌-◌, ◌++◌}
use Rattle.sal_tour.specs.Events.{drawn_events}
use Rattle.sal_tour.proofs.events.drawn_events.Given as goal

abbrev pub invariant-loop-turn : goal.invariant-loop-turn
invariant-loop-turn l = drawn_events l.fn.count l.fn.state ≡ l.events.items ++ drawn_events (l.count - l._turn) l.state
