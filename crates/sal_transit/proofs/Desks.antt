-- Turns change no link but by what they take.
use Rattle.std.proofs.Common.{◌≡◌, ℕ, Bool, true, false, List, refl, ap, ◌∙◌}
use Rattle.std.specs.Prelude.{if◌then◌else◌, Result, Ok, Err}
use Rattle.sal_value.specs.declared.name.Name.TheVariants as name
use Rattle.sal_value.specs.declared.value.DecodeFault.{DecodeFault}
use Rattle.sal_mail.specs.declared.message.Message.{Message}
use Rattle.sal_mail.specs.declared.envelope.Envelope.{Envelope}
use Rattle.sal_mail.specs.declared.fault.FaultKind.{FaultKind}
use Rattle.sal_mail.specs.declared.fault.FaultKind.TheVariants.{NoHandler, Trap as Trapped}
use Rattle.sal_envelope.specs.Decoding.{decoded_envelope}
use Rattle.sal_handler.specs.Calls.{Meaning}
use Rattle.sal_handler.specs.declared.turn.Began.{Began}
use Rattle.sal_handler.specs.declared.turn.Began.TheVariants as began
use Rattle.sal_handler.specs.declared.turn.Outcome.{Outcome}
use Rattle.sal_handler.specs.declared.turn.Outcome.TheVariants as outcome
use Rattle.sal_source.specs.Step.{understands}
use Rattle.sal_carriage.specs.Link.{Link}
use Rattle.sal_carriage.specs.declared.datagram.Taken.{Taken}
use Rattle.sal_carriage.specs.declared.datagram.Taken.TheVariants as taken
use Rattle.sal_node.specs.Links.{take_datagram}
use Rattle.sal_resident.specs.declared.resident.Resident.{Resident}
use Rattle.sal_routing.specs.State.{Theatre, Desk, desk, actor_of, log, with_work}
use Rattle.sal_routing.specs.Laws.{TheatreNode, node_of}
use Rattle.sal_routing.specs.Routing.{route}
use Rattle.sal_routing.specs.Handling.{handle, handle_understood, by_outcome, fail, may_be_called, call_at, print_message, without_ready, take_effect, migrate_after}
use Rattle.sal_routing.specs.Turns.{begin_by, receive_taken, receive_decoded, release_delayed, again_due, ask_all, at_reading}
use Rattle.sal_routing.proofs.Nodes.{route-node, depart-node, take_effect-node, migrate_after-node, receive-node, ask_all-node}
use Rattle.sal_transit.specs.Desks.{IsDeskOf, DesksKeepLinks}

desk_of : (t : Theatre) (links : List Link) (d : Desk) (n : TheatreNode) → node_of d.theatre ≡ n → n.me ≡ t.me → n.plan ≡ t.plan → n.links ≡ links → IsDeskOf t links d
desk_of t links d n e me plan same = record {
  node = record { me = ap (λ (x : TheatreNode). x.me) e ∙ me; plan = ap (λ (x : TheatreNode). x.plan) e ∙ plan };
  kept = ap (λ (x : TheatreNode). x.links) e ∙ same;
}

began_desk : (b : Began) (t : Theatre) → IsDeskOf t t.links (begin_by b (desk t))
began_desk (began.Actor behavior handler fields) t = record { node = record { me = refl; plan = refl }; kept = refl }
began_desk (began.Trap kind) t = record { node = record { me = refl; plan = refl }; kept = refl }

decoded_node : (p : Meaning) (r : Result Envelope DecodeFault) (d : Desk) → node_of (receive_decoded p r d).theatre ≡ node_of d.theatre
decoded_node p (Ok e) d = receive-node p e d
decoded_node p (Err fault) d = refl

taken_node : (p : Meaning) (k : Taken) (d : Desk) → node_of (receive_taken p k d).theatre ≡ node_of d.theatre
taken_node p (taken.Envelope bytes) d = decoded_node p (decoded_envelope bytes) d
taken_node p taken.Part d = refl
taken_node p taken.Old d = refl
taken_node p taken.Ahead d = refl
taken_node p taken.Acknowledged d = refl
taken_node p taken.Noise d = refl

module _ (p : Meaning) (m : Message) (r : Resident) (i : ℕ) (t : Theatre) where
  abbrev first : Desk
  first = desk (without_ready i t)

  failed : (kind : FaultKind) → IsDeskOf t t.links (fail kind m first)
  unfolding fail
  failed kind = record { node = record { me = refl; plan = refl }; kept = refl }

  by : (o : Outcome) → IsDeskOf t t.links (by_outcome p o m r first)
  by (outcome.Done e) =
      desk_of t t.links (migrate_after m r (take_effect p e m r first)) (record (node_of t) { next_anon = e.fresh })
      (migrate_after-node m r (take_effect p e m r first) ∙ take_effect-node p e m r first) refl refl refl
  by (outcome.Trap kind) = failed (Trapped kind)

  understood : (b : Bool) → IsDeskOf t t.links (if b then by_outcome p (p.outcome (call_at m r first.theatre)) m r first else first)
  understood true = by (p.outcome (call_at m r first.theatre))
  understood false = record { node = record { me = refl; plan = refl }; kept = refl }

  handled_by : (b : Bool) → IsDeskOf t t.links (if b then handle_understood p m r first else fail NoHandler m first)
  handled_by true = understood (may_be_called p (call_at m r first.theatre))
  handled_by false = failed NoHandler

  handled : IsDeskOf t t.links (handle p m r first)
  unfolding handle
  handled = handled_by (understands (actor_of r) m)

printed : (p : Meaning) (m : Message) (i : ℕ) (t : Theatre) → IsDeskOf t t.links (print_message p m (desk (without_ready i t)))
unfolding print_message
printed p m i t = desk_of t t.links _ (node_of t) (route-node p _) refl refl refl

released : (p : Meaning) (ms : ℕ) (t : Theatre) → IsDeskOf t t.links (ask_all (again_due (at_reading ms t)) (route p (release_delayed (desk (at_reading ms t)))))
unfolding release_delayed
released p ms t =
    desk_of t t.links _ (node_of (at_reading ms t))
    (ask_all-node (again_due (at_reading ms t)) (route p (release_delayed (desk (at_reading ms t)))) ∙ route-node p (release_delayed (desk (at_reading ms t)))) refl refl refl

pub keep_links : DesksKeepLinks
keep_links = record {
  begun = λ p t. began_desk p.begin t;
  datagram = λ p bytes t.
      let links : List Link = (take_datagram bytes t.links).links in
      desk_of t links _ (node_of (record t { links = links })) (taken_node p (take_datagram bytes t.links).taken (desk (record t { links = links }))) refl refl refl;
  clock = released;
  printed = printed;
  handled = handled;
  moved = λ u to t. desk_of t t.links _ (node_of t) (depart-node (name.Uan u) to (desk t)) refl refl refl;
  posted = λ p s items t. desk_of t t.links _ (node_of t) (route-node p (with_work items (log s (desk t)))) refl refl refl;
}
