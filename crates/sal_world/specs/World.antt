-- The world: the nodes of a plan, every packet that was sent, and what was told.
use Rattle.std.specs.Prelude.{ℕ, ◌+◌, List, [], ◌++◌, map, find, nat_eq, length, flat_map, filter_map, Option, Some, None, Result, Ok, Err}
use Rattle.std.specs.FinMap as fm
use Rattle.sal_value.specs.declared.name.Name.{Name}
use Rattle.sal_value.specs.declared.value.Value.{Value}
use Rattle.sal_value.specs.declared.value.DecodeFault.{DecodeFault}
use Rattle.sal_value.specs.Table.{Table}
use Rattle.sal_mail.specs.declared.message.Join.{Join}
use Rattle.sal_mail.specs.declared.envelope.Envelope.{Envelope}
use Rattle.sal_mail.specs.declared.fault.Fault.{Fault}
use Rattle.sal_mail.specs.declared.plan.Plan.{Plan}
use Rattle.sal_envelope.specs.Decoding.{decoded_envelope}
use Rattle.sal_source.specs.declared.state.Setup.{Setup}
use Rattle.sal_source.specs.declared.state.Step.{Step}
use Rattle.sal_carriage.specs.Link.{Link}
use Rattle.sal_carriage.specs.Transit.{in_transit}
use Rattle.sal_node.specs.declared.constants.TheConstants.{FIRST_SERVICE}
use Rattle.sal_node.specs.Links.{numbers_from, node_numbers}
use Rattle.sal_routing.specs.State.{Theatre, new_theatre}
use Rattle.sal_service.specs.Service.{Service, new_service}
use Rattle.sal_world.specs.declared.packet.Packet.{Packet}

-- What was told: the steps that were taken; the texts that were printed, each with its theatre; the faults; the
-- answers; and the number of the last post. Of each actor ever made, by name, the theatre where it was made or to which
-- it last went; and how often actors moved. And the joins that are open once each reply on its way is given, by owner and
-- number: by them it is known what a step answers.
pub record Lists : Type 0 where
  pub trace : List Step
  pub output : List (ℕ × List ℕ)
  pub faults : List Fault
  pub answers : List (ℕ × Value)
  pub posted : ℕ
  pub places : Table ℕ
  pub moves : ℕ
  pub open_joins : Table (Name × Join)

abbrev pub no_lists : Lists
no_lists = record {
  trace = [];
  output = [];
  faults = [];
  answers = [];
  posted = 0;
  places = fm.empty;
  moves = 0;
  open_joins = fm.empty;
}

-- The nodes; the packets in the order in which they were sent; and what was told.
pub record World : Type 0 where
  pub plan : Plan
  pub theatres : List Theatre
  pub services : List Service
  pub packets : List Packet
  pub lists : Lists

-- what a run of the program's meaning has to know of a plan
abbrev pub setup_of : Plan → Setup
setup_of plan = record { authorities = plan.names; words = plan.words }

-- the numbers of the theatres of a plan
abbrev pub theatre_numbers : Plan → List ℕ
theatre_numbers plan = numbers_from 0 (length plan.theatres)

-- before theatre 0 began; the program's hash begins with these bytes
abbrev pub new_world : Plan → List ℕ → World
new_world plan program = record {
  plan = plan;
  theatres = map (λ k. new_theatre k plan program) (theatre_numbers plan);
  services = map (λ j. new_service program j plan) (numbers_from 0 (length plan.names));
  packets = [];
  lists = no_lists;
}

-- ---- what is in transit

-- the links of each node, with its number
abbrev pub ends : World → List (ℕ × List Link)
ends w = map (λ t. (t.me, t.links)) w.theatres ++ map (λ s. (FIRST_SERVICE + s.number, s.links)) w.services

abbrev pub links_of : Option (ℕ × List Link) → List Link
links_of None = []
links_of (Some e) = e.1

abbrev pub links_at : ℕ → World → List Link
links_at node w = links_of (find (λ e. nat_eq e.0 node) (ends w))

-- the first of these links to the peer
abbrev pub link_to : ℕ → List Link → Option Link
link_to peer links = find (λ l. nat_eq l.peer peer) links

-- an envelope, and the node to which it goes
abbrev pub Letter : Type 0
Letter = ℕ × Envelope

-- an envelope to this node, if the bytes spell one
abbrev pub letter_by : ℕ → Result Envelope DecodeFault → Option Letter
letter_by node (Ok e) = Some (node, e)
letter_by node (Err fault) = None

-- what the two ends of a link have in transit to this node
abbrev pub letters_to : ℕ → Option Link → Option Link → List Letter
letters_to node (Some sender) (Some receiver) = filter_map (λ bytes. letter_by node (decoded_envelope bytes)) (in_transit sender receiver)
letters_to node _ _ = []

-- the envelopes in transit from one node to another, oldest first
unfoldable pub letters_between : World → ℕ → ℕ → List Letter
letters_between w from to = letters_to to (link_to to (links_at from w)) (link_to from (links_at to w))

-- All envelopes in transit.
unfoldable pub letters : World → List Letter
letters w = flat_map (λ from. flat_map (letters_between w from) (node_numbers w.plan)) (node_numbers w.plan)
