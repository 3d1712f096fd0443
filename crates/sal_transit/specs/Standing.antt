-- What holds of the links of a world, whatever the network does.
use Rattle.std.specs.Prelude.{◌≡◌, ℕ, ◌≤◌, Bool, true, ◌&&◌, not, if◌then◌else◌, nat_eq, List, length, map, filter, slice_get, Some}
use Rattle.sal_source.specs.Table.{total}
use Rattle.sal_mail.specs.declared.plan.Plan.{Plan}
use Rattle.sal_carriage.specs.declared.datagram.Datagram.{Datagram}
use Rattle.sal_carriage.specs.Fragments.{AllFit}
use Rattle.sal_carriage.specs.Link.{Link, number_limit}
use Rattle.sal_carriage.specs.Transit.{IsWhole, IsInStep}
use Rattle.sal_carriage.specs.Laws.{HasOffered}
use Rattle.sal_carriage.specs.Exchange.{ArePackets}
use Rattle.sal_node.specs.Links.{node_numbers, has_few_nodes, sender_of}
use Rattle.sal_routing.specs.State.{Theatre}
use Rattle.sal_service.specs.Service.{Service}
use Rattle.sal_world.specs.World.{World, link_to, links_at}

-- ---- nodes

-- how often a number is among these
abbrev pub times : ℕ → List ℕ → ℕ
times n ns = total (λ m. if nat_eq m n then 1 else 0) ns

abbrev pub is_node : ℕ → Plan → Bool
is_node n plan = nat_eq (times n (node_numbers plan)) 1

-- two nodes of the plan
abbrev pub are_peers : ℕ → ℕ → Plan → Bool
are_peers a b plan = is_node a plan && (is_node b plan && not (nat_eq a b))

-- ---- one direction of a link

-- Sender and receiver are the ends of one link, and these are all the packets that the sender ever sent on it: each of them is a
-- frame that carries what was offered under its number. Only whole envelopes are in transit.
pub record Carries (sent : List (List ℕ)) (sender receiver : Link) : Type 0 where
  pub all : List (List ℕ × Bool)
  pub offered : HasOffered all sender
  pub room : length all ≤ number_limit
  pub fit : AllFit sender.unacknowledged
  pub program : length sender.program ≡ 8
  pub packets : ArePackets all sender sent
  pub step : IsInStep sender receiver
  pub whole : IsWhole sender receiver

-- ---- the links of all nodes

-- the links of the node with this number
abbrev pub Ends : Type 0
Ends = ℕ → List Link

abbrev pub is_between : ℕ → ℕ → Datagram → Bool
is_between a b d = nat_eq d.to b && nat_eq (sender_of d.bytes) a

-- what node a ever sent to node b
abbrev pub sent_between : ℕ → ℕ → List Datagram → List (List ℕ)
sent_between a b ds = map (λ d. d.bytes) (filter (is_between a b) ds)

-- Each node of the plan has one link to each other, and no further one; each two ends of a link carry what was offered, where these
-- datagrams were sent.
pub record NetStands (plan : Plan) (ds : List Datagram) (ends : Ends) : Type 0 where
  pub linked : (a b : ℕ) → times b (map (λ l. l.peer) (ends a)) ≡ (if are_peers a b plan then 1 else 0)
  pub carry : (a b : ℕ) (l m : Link) → link_to b (ends a) ≡ Some l → link_to a (ends b) ≡ Some m → Carries (sent_between a b ds) l m

-- ---- a world

-- Each node stands at the position of its number, in a plan of few nodes.
pub record NodesStand (w : World) : Type 0 where
  pub few : has_few_nodes w.plan ≡ true
  pub theatre_count : length w.theatres ≡ length w.plan.theatres
  pub theatres : (k : ℕ) (t : Theatre) → slice_get w.theatres k ≡ Some t → (t.me ≡ k) × (t.plan ≡ w.plan)
  pub services : (j : ℕ) (s : Service) → slice_get w.services j ≡ Some s → (s.number ≡ j) × (s.plan ≡ w.plan)

pub record LinksStand (w : World) : Type 0 where
  pub nodes : NodesStand w
  pub net : NetStands w.plan (map (λ x. x.datagram) w.packets) (λ n. links_at n w)
