-- The turns of a world: each event is one turn of one node, but for settling, which is rounds of them.
use Rattle.std.specs.Prelude.{ℕ, zero, suc, ◌+◌, ◌-◌, Bool, true, false, if◌then◌else◌, nat_lt, List, [], ◌∷◌, ◌++◌, map, filter_map, length, slice_get, slice_set, Option, Some, None}
use Rattle.std.specs.List.{enumerate_from}
use Rattle.sal_value.specs.declared.name.Name.{Name}
use Rattle.sal_value.specs.declared.name.Name.TheVariants as name
use Rattle.sal_value.specs.declared.name.Uan.{Uan}
use Rattle.sal_mail.specs.declared.plan.Plan.{Plan}
use Rattle.sal_handler.specs.Calls.{Meaning}
use Rattle.sal_source.specs.declared.state.Step.{Step}
use Rattle.sal_source.specs.declared.state.Step.TheVariants.{Bind, Refuse}
use Rattle.sal_carriage.specs.declared.datagram.Datagram.{Datagram}
use Rattle.sal_directory.specs.Nodes.{service_of}
use Rattle.sal_node.specs.declared.constants.TheConstants.{FIRST_SERVICE}
use Rattle.sal_node.specs.Links.{node_numbers}
use Rattle.sal_events.specs.declared.event.Event.{Event}
use Rattle.sal_events.specs.declared.event.Event.TheVariants as event
use Rattle.sal_routing.specs.declared.told.Told.{Told}
use Rattle.sal_routing.specs.State.{Theatre, silence}
use Rattle.sal_routing.specs.State as state
use Rattle.sal_routing.specs.Turns as turns
use Rattle.sal_service.specs.declared.turned.Decision.{Decision}
use Rattle.sal_service.specs.declared.turned.Turned.{Turned as Served}
use Rattle.sal_service.specs.Service.{Service, service_datagram, service_clock, service_due, service_push, service_delete}
use Rattle.sal_world.specs.declared.constants.TheConstants.{PACKET_LIMIT, ROUND_TIME}
use Rattle.sal_world.specs.declared.packet.Packet.{Packet}
use Rattle.sal_world.specs.declared.turned.Turned.{Turned}
use Rattle.sal_world.specs.declared.turned.Turned.TheVariants.{Done, Nothing, PacketsFull}
use Rattle.sal_world.specs.declared.turned.Settled.{Settled}
use Rattle.sal_world.specs.declared.turned.Settled.TheVariants as settled
use Rattle.sal_world.specs.World.{World, theatre_numbers, new_world}
use Rattle.sal_world.specs.Lists.{listed}
use Rattle.sal_world.specs.Rest.{is_at_rest}

-- ---- one turn of one node

-- What an event came to, and the world after it.
abbrev pub Came : Type 0
Came = Turned × World

abbrev pub done_if : Bool → Turned
done_if took = if took then Done else Nothing

-- the theatre stands at its number, and the naming service too
abbrev pub put_theatre : ℕ → Theatre → World → World
put_theatre k t w = record w { theatres = slice_set w.theatres k t }

abbrev pub put_service : ℕ → Service → World → World
put_service number s w = record w { services = slice_set w.services number s }

abbrev pub theatre_at : ℕ → World → Option Theatre
theatre_at k w = slice_get w.theatres k

-- the naming service with this number, counted from 0
abbrev pub service_at : ℕ → World → Option Service
service_at number w = slice_get w.services number

-- what a naming service decided is a step: the name is bound and its actor made at its theatre, or it is refused
abbrev pub step_of_decision : Decision → Step
step_of_decision x = if x.bound then Bind x.maker x.serial else Refuse x.maker x.serial

abbrev pub made_by_decision : Decision → List (Name × ℕ)
made_by_decision x = if x.bound then (name.Uan x.name, x.theatre) ∷ [] else []

abbrev pub told_of : Option Decision → Told
told_of None = silence
told_of (Some x) = record silence { log = step_of_decision x ∷ []; made = made_by_decision x }

-- node n told this
abbrev pub with_told : ℕ → Told → World → World
with_told n told w = record w { lists = listed n told w.lists }

abbrev pub after_theatre : ℕ → state.Turned → World → Came
after_theatre k x w = (done_if x.took, with_told k x.told (put_theatre k x.theatre w))

abbrev pub after_service : ℕ → Service × Served → World → Came
after_service number x w = (done_if x.1.took, with_told (FIRST_SERVICE + number) (told_of x.1.decision) (put_service number x.0 w))

abbrev pub at_theatre_by : Option Theatre → ℕ → (Theatre → state.Turned) → World → Came
at_theatre_by None k turn w = (Nothing, w)
at_theatre_by (Some t) k turn w = after_theatre k (turn t) w

-- a turn of theatre k, if there is one
abbrev pub at_theatre : ℕ → (Theatre → state.Turned) → World → Came
at_theatre k turn w = at_theatre_by (theatre_at k w) k turn w

abbrev pub at_service_by : Option Service → ℕ → (Service → Service × Served) → World → Came
at_service_by None number turn w = (Nothing, w)
at_service_by (Some s) number turn w = after_service number (turn s) w

-- a turn of the naming service with this number, if there is one
abbrev pub at_service : ℕ → (Service → Service × Served) → World → Came
at_service number turn w = at_service_by (service_at number w) number turn w

-- whatever such a turn found to do, it was made
abbrev pub made : Came → Came
made x = (Done, x.1)

-- A turn of this node. Naming services are numbered after theatres.
abbrev pub at_node : ℕ → (Theatre → state.Turned) → (Service → Service × Served) → World → Came
at_node n theatre service w = if nat_lt n FIRST_SERVICE then at_theatre n theatre w else at_service (n - FIRST_SERVICE) service w

-- ---- pushes

abbrev pub packet_of : Datagram → Packet
packet_of d = record { datagram = d; delivered = false }

abbrev pub put_packets : List Datagram → World → World
put_packets ds w = record w { packets = w.packets ++ map packet_of ds }

-- the packets that are due, and the world in which they were sent; or nothing, where they are too many
abbrev pub push_by : List Datagram → World → World → Came
push_by ds sent w = if nat_lt PACKET_LIMIT (length w.packets + length ds) then (PacketsFull, w) else (Done, put_packets ds sent)

abbrev pub push_theatre : Option Theatre → ℕ → World → Came
push_theatre None k w = (Nothing, w)
push_theatre (Some t) k w = push_by (turns.due_datagrams t) (put_theatre k (turns.push t) w) w

abbrev pub push_service : Option Service → ℕ → World → Came
push_service None number w = (Nothing, w)
push_service (Some s) number w = push_by (service_due s) (put_service number (service_push s) w) w

unfoldable pub push_node : ℕ → World → Came
push_node n w = if nat_lt n FIRST_SERVICE then push_theatre (theatre_at n w) n w else push_service (service_at (n - FIRST_SERVICE) w) (n - FIRST_SERVICE) w

-- ---- deliveries and clocks

abbrev pub mark_delivered : ℕ → Packet → World → World
mark_delivered i x w = record w { packets = slice_set w.packets i (record x { delivered = true }) }

abbrev pub deliver_by : Meaning → ℕ → Option Packet → World → Came
deliver_by p i None w = (Nothing, w)
deliver_by p i (Some x) w =
    made (at_node x.datagram.to (turns.datagram p x.datagram.bytes) (service_datagram x.datagram.bytes) (mark_delivered i x w))

-- packet i is delivered, and kept
unfoldable pub deliver : Meaning → ℕ → World → Came
deliver p i w = deliver_by p i (slice_get w.packets i) w

-- so many milliseconds are added to the node's clock
unfoldable pub pass_time : Meaning → ℕ → ℕ → World → Came
pass_time p n ms w = made (at_node n (λ t. turns.clock p (t.clock + ms) t) (λ s. service_clock (state.moment (s.clock + ms)) s) w)

-- ---- one event but for settling

abbrev pub step_theatre : Meaning → ℕ → ℕ → World → Came
step_theatre p k i w = at_theatre k (turns.step p i) w

abbrev pub delete_at : Option ℕ → Uan → World → Came
delete_at None u w = (Nothing, w)
delete_at (Some number) u w = at_service number (service_delete u) w

-- ---- settling

-- Turns one after another, up to a push that meets the limit.
abbrev pub unless_full : Turned → (World → Came) → World → Came
unless_full PacketsFull turn w = (PacketsFull, w)
unless_full Done turn w = turn w
unless_full Nothing turn w = turn w

abbrev pub then_turn : (World → Came) → Came → Came
then_turn turn x = unless_full x.0 turn x.1

unfoldable pub turns_of : {X : Type 0} → (X → World → Came) → List X → World → Came
turns_of turn [] w = (Done, w)
turns_of turn (x ∷ xs) w = then_turn (turns_of turn xs) (turn x w)

abbrev pub undelivered_number : ℕ × Packet → Option ℕ
undelivered_number x = if x.1.delivered then None else Some x.0

-- the packets that were never delivered, by their numbers
abbrev pub undelivered : World → List ℕ
undelivered w = filter_map undelivered_number (enumerate_from 0 w.packets)

-- so many steps of the item at the front
unfoldable pub first_steps : Meaning → ℕ → ℕ → World → Came
first_steps p k zero w = (Done, w)
first_steps p k (suc n) w = first_steps p k n (step_theatre p k 0 w).1

abbrev pub ready_count : Option Theatre → ℕ
ready_count None = 0
ready_count (Some t) = length t.ready

-- as many steps as there are ready items when the theatre's part begins
abbrev pub theatre_part : Meaning → ℕ → World → Came
theatre_part p k w = first_steps p k (ready_count (theatre_at k w)) w

abbrev pub deliver_all : Meaning → World → Came
deliver_all p w = turns_of (deliver p) (undelivered w) w

abbrev pub step_all : Meaning → World → Came
step_all p w = turns_of (theatre_part p) (theatre_numbers w.plan) w

abbrev pub pass_all : Meaning → World → Came
pass_all p w = turns_of (λ n. pass_time p n ROUND_TIME) (node_numbers w.plan) w

-- each node is pushed, then each packet delivered that never was, then each theatre makes its steps, then each clock rises
unfoldable pub round : Meaning → World → Came
round p w = then_turn (pass_all p) (then_turn (step_all p) (then_turn (deliver_all p) (turns_of push_node (node_numbers w.plan) w)))

abbrev pub settle_unless_full : Turned → (World → Settled × World) → World → Settled × World
settle_unless_full PacketsFull more w = (settled.PacketsFull, w)
settle_unless_full Done more w = more w
settle_unless_full Nothing more w = more w

abbrev pub settle_after : (World → Settled × World) → Came → Settled × World
settle_after more x = settle_unless_full x.0 more x.1

-- at most so many rounds, each where the world isn't at rest
unfoldable pub settle : Meaning → ℕ → World → Settled × World
settle p zero w = if is_at_rest w then (settled.AtRest, w) else (settled.RoundsSpent, w)
settle p (suc n) w = if is_at_rest w then (settled.AtRest, w) else settle_after (settle p n) (round p w)

abbrev pub turned_by_settling : Settled → Turned
turned_by_settling settled.AtRest = Done
turned_by_settling settled.RoundsSpent = Done
turned_by_settling settled.PacketsFull = PacketsFull

abbrev pub came_of_settling : Settled × World → Came
came_of_settling x = (turned_by_settling x.0, x.1)

-- ---- events

unfoldable pub turn : Meaning → Event → World → Came
turn p (event.Step k i) w = step_theatre p k i w
turn p (event.Push n) w = push_node n w
turn p (event.Deliver i) w = deliver p i w
turn p (event.Clock n ms) w = pass_time p n ms w
turn p (event.Move k u to) w = at_theatre k (turns.move_actor u to) w
turn p (event.Post k number to behavior handler args) w = at_theatre k (turns.post p number to behavior handler args) w
turn p (event.Delete u) w = delete_at (service_of w.plan u) u w
turn p (event.Settle rounds) w = came_of_settling (settle p rounds w)

-- theatre 0 has begun
unfoldable pub first_world : Meaning → Plan → List ℕ → World
first_world p plan program = (at_theatre 0 (turns.begin p) (new_world plan program)).1

-- Playing events: the world after them in order, or up to the one that met the limit of packets.
unfoldable pub after_events : Meaning → List Event → World → World
after_events p events w = (turns_of (turn p) events w).1
