-- The events of the tour.
use Rattle.std.specs.Prelude.{ℕ, zero, suc, ◌==◌, if◌then◌else◌, List, [], ◌∷◌, ◌++◌}
use Rattle.sal_events.specs.declared.event.Event.{Event}
use Rattle.sal_events.specs.declared.event.Event.TheVariants as event
use Rattle.sal_tour.specs.declared.constants.TheConstants.{DRAWN_EVENTS, LAST_ROUNDS}
use Rattle.sal_tour.specs.Draws.{below, next_state}

-- An event and the state after it, by the kind that was drawn. A clock's node is drawn before its milliseconds.
abbrev pub event_of_kind : ℕ → ℕ → Event × ℕ
event_of_kind kind x =
    if kind == 0 then (event.Step (below 8 (next_state x)) 0, next_state x)
    else if kind == 1 then (event.Push (below 9 (next_state x)), next_state x)
    else if kind == 2 then (event.Deliver (below 4096 (next_state x)), next_state x)
    else (event.Clock (below 9 (next_state x)) (below 100 (next_state (next_state x))), next_state (next_state x))

-- what is drawn in a state: first the kind, then what the event is about
unfoldable pub drawn : ℕ → Event × ℕ
drawn x = event_of_kind (below 4 (next_state x)) (next_state x)

-- so many events
unfoldable pub drawn_events : ℕ → ℕ → List Event
drawn_events zero x = []
drawn_events (suc n) x = (drawn x).0 ∷ drawn_events n (drawn x).1

-- the events of the tour with this number: 20,000 that are drawn, and then 10,000 rounds until all rests
unfoldable pub tour_events : ℕ → List Event
tour_events number = drawn_events DRAWN_EVENTS number ++ event.Settle LAST_ROUNDS ∷ []
