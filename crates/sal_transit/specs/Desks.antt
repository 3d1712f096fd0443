-- The desk with which each turn of a theatre ends is one of the same node, and its links are those after what came was taken.
use Rattle.std.specs.Prelude.{◌≡◌, ℕ, List}
use Rattle.sal_value.specs.declared.name.Name.TheVariants as name
use Rattle.sal_value.specs.declared.name.Uan.{Uan}
use Rattle.sal_mail.specs.declared.message.Message.{Message}
use Rattle.sal_handler.specs.Calls.{Meaning}
use Rattle.sal_source.specs.declared.state.Step.{Step}
use Rattle.sal_carriage.specs.Link.{Link}
use Rattle.sal_node.specs.Links.{take_datagram}
use Rattle.sal_resident.specs.declared.resident.Resident.{Resident}
use Rattle.sal_routing.specs.declared.item.Item.{Item}
use Rattle.sal_routing.specs.State.{Theatre, Desk, desk, log, with_work}
use Rattle.sal_routing.specs.Routing.{route}
use Rattle.sal_routing.specs.Arrivals.{depart}
use Rattle.sal_routing.specs.Handling.{handle, print_message, without_ready}
use Rattle.sal_routing.specs.Turns.{begin_by, receive_taken, release_delayed, again_due, ask_all, at_reading}
use Rattle.sal_transit.specs.Worlds.{IsSameNode}

pub record IsDeskOf (t : Theatre) (links : List Link) (d : Desk) : Type 0 where
  pub node : IsSameNode t d.theatre
  pub kept : d.theatre.links ≡ links

pub record DesksKeepLinks : Type 0 where
  pub begun : (p : Meaning) (t : Theatre) → IsDeskOf t t.links (begin_by p.begin (desk t))
  pub datagram : (p : Meaning) (bytes : List ℕ) (t : Theatre)
      → IsDeskOf t (take_datagram bytes t.links).links (receive_taken p (take_datagram bytes t.links).taken (desk (record t { links = (take_datagram bytes t.links).links })))
  pub clock : (p : Meaning) (ms : ℕ) (t : Theatre) → IsDeskOf t t.links (ask_all (again_due (at_reading ms t)) (route p (release_delayed (desk (at_reading ms t)))))
  pub printed : (p : Meaning) (m : Message) (i : ℕ) (t : Theatre) → IsDeskOf t t.links (print_message p m (desk (without_ready i t)))
  pub handled : (p : Meaning) (m : Message) (r : Resident) (i : ℕ) (t : Theatre) → IsDeskOf t t.links (handle p m r (desk (without_ready i t)))
  pub moved : (u : Uan) (to : ℕ) (t : Theatre) → IsDeskOf t t.links (depart (name.Uan u) to (desk t))
  pub posted : (p : Meaning) (s : Step) (items : List Item) (t : Theatre) → IsDeskOf t t.links (route p (with_work items (log s (desk t))))
