-- What holds of turns, whatever the program.
use Rattle.std.specs.Prelude.{◌≡◌, ℕ, ◌<◌, false, List, [], ◌∷◌}
use Rattle.sal_value.specs.declared.name.Name.{Name}
use Rattle.sal_value.specs.declared.name.Uan.{Uan}
use Rattle.sal_mail.specs.declared.message.Message.{Message}
use Rattle.sal_mail.specs.declared.effects.Creation.{Creation}
use Rattle.sal_mail.specs.declared.effects.Effects.{Effects}
use Rattle.sal_mail.specs.declared.envelope.Envelope.{Envelope}
use Rattle.sal_mail.specs.declared.plan.Plan.{Plan}
use Rattle.sal_handler.specs.Calls.{Meaning}
use Rattle.sal_carriage.specs.Link.{Link, is_taken}
use Rattle.sal_resident.specs.declared.resident.Resident.{Resident}
use Rattle.sal_node.specs.Links.{take_datagram}
use Rattle.sal_routing.specs.declared.item.Item.{Item}
use Rattle.sal_routing.specs.State.{Theatre, Desk, silence}
use Rattle.sal_routing.specs.Routing.{route_item, items_left, route}
use Rattle.sal_routing.specs.Arrivals.{arrive, learn, depart}
use Rattle.sal_routing.specs.Handling.{create_all, take_effect}
use Rattle.sal_routing.specs.Turns.{receive, datagram, clock}

-- ---- routing

-- Routing goes on to the end of the list: its bound never shows.
abbrev pub RoutingEnds : Type 0
RoutingEnds = (p : Meaning) (d : Desk) → (route p d).work ≡ []

-- The list is routed item after item from its front, and each leaves less that can still be routed.
pub record RoutingGoesByItems : Type 0 where
  pub done : (p : Meaning) (d : Desk) → d.work ≡ [] → route p d ≡ d
  pub next : (p : Meaning) (i : Item) (items : List Item) (d : Desk) → d.work ≡ i ∷ items → route p d ≡ route p (route_item p i (record d { work = items }))
  pub falls : (p : Meaning) (i : Item) (items : List Item) (d : Desk) → d.work ≡ i ∷ items → items_left (route_item p i (record d { work = items })) < items_left d

-- ---- the node

-- what a theatre is apart from its actors and messages, and from what it knows of names
pub record TheatreNode : Type 0 where
  pub me : ℕ
  pub plan : Plan
  pub links : List Link
  pub clock : ℕ
  pub next_anon : ℕ

abbrev pub node_of : Theatre → TheatreNode
node_of t = record { me = t.me; plan = t.plan; links = t.links; clock = t.clock; next_anon = t.next_anon }

-- The parts of a turn change nothing of it, but that a handler takes names of anonymous actors.
pub record PartsKeepTheNode : Type 0 where
  pub route : (p : Meaning) (d : Desk) → node_of (route p d).theatre ≡ node_of d.theatre
  pub arrive : (p : Meaning) (r : Resident) (d : Desk) → node_of (arrive p r d).theatre ≡ node_of d.theatre
  pub learn : (p : Meaning) (u : Uan) (to moves : ℕ) (d : Desk) → node_of (learn p u to moves d).theatre ≡ node_of d.theatre
  pub depart : (n : Name) (to : ℕ) (d : Desk) → node_of (depart n to d).theatre ≡ node_of d.theatre
  pub create_all : (maker : Name) (xs : List Creation) (d : Desk) → node_of (create_all maker xs d).theatre ≡ node_of d.theatre
  pub take_effect : (p : Meaning) (e : Effects) (m : Message) (r : Resident) (d : Desk) → node_of (take_effect p e m r d).theatre ≡ record (node_of d.theatre) { next_anon = e.fresh }
  pub receive : (p : Meaning) (e : Envelope) (d : Desk) → node_of (receive p e d).theatre ≡ node_of d.theatre

-- ---- turns without work

-- A datagram that carries no wanted fragment changes nothing but a link, and tells nothing.
abbrev pub UnwantedDatagramsChangeLittle : Type 0
UnwantedDatagramsChangeLittle =
    (p : Meaning) (bytes : List ℕ) (t : Theatre) → is_taken (take_datagram bytes t.links).taken ≡ false
    → ((datagram p bytes t).theatre ≡ record t { links = (take_datagram bytes t.links).links }) × ((datagram p bytes t).told ≡ silence)

-- A clock turn that found nothing to do left the theatre as it was, and told nothing.
abbrev pub IdleClocksChangeNothing : Type 0
IdleClocksChangeNothing = (p : Meaning) (ms : ℕ) (t : Theatre) → (clock p ms t).took ≡ false → ((clock p ms t).theatre ≡ t) × ((clock p ms t).told ≡ silence)
