-- The turns of theatres and of naming services.
use Rattle.std.proofs.Common.{◌≡◌, ℕ, ◌+◌, ◌≤◌, Bool, true, List, [], ◌++◌, length, map, Option, Some, None, refl, sym, ap, subst, ◌∙◌, arith}
use Rattle.std.specs.Prelude.{slice_get, slice_set}
use Rattle.sal_mail.specs.declared.envelope.Envelope.{Envelope}
use Rattle.sal_mail.specs.declared.envelope.Envelope.TheVariants as envelope
use Rattle.sal_envelope.specs.Spelling.{envelope_spelling}
use Rattle.sal_carriage.specs.declared.datagram.Taken.{Taken}
use Rattle.sal_carriage.specs.Link.{Link}
use Rattle.sal_node.specs.declared.constants.TheConstants.{FIRST_SERVICE}
use Rattle.sal_node.specs.declared.parcel.Parcel.{Parcel}
use Rattle.sal_node.specs.Links.{offer_all, due_on, push_all, sender_of, take_datagram}
use Rattle.sal_routing.specs.State.{Theatre, Desk, Turned}
use Rattle.sal_routing.specs.Handling.{offered_or, finished}
use Rattle.sal_routing.specs.Turns.{due_datagrams}
use Rattle.sal_routing.specs.Turns as turns
use Rattle.sal_service.specs.Service.{Service, answer_or_idle, after_datagram, parcels_to, serve_taken, service_datagram, service_due, service_push}
use Rattle.sal_service.specs.declared.turned.Turned.{Turned as Served}
use Rattle.sal_unseen.specs.Desks.{sent_pieces}
use Rattle.sal_world.specs.World.{World, link_to, letters, letters_between}
use Rattle.sal_world.specs.Turns.{packet_of, theatre_at, put_theatre, put_service, after_theatre, after_service, mark_delivered, put_packets, told_of}
use Rattle.sal_world.specs.Lists.{listed}
use Rattle.sal_transit.specs.Standing.{are_peers, NetStands, LinksStand}
use Rattle.sal_transit.specs.Letters.{AreOfferedBy}
use Rattle.sal_transit.specs.Worlds.{Moves, MarksKeepLetters, taken_pieces, IsSameNode, TheatresSend, TheatresTake, IdleTheatresKeep, TheatresPush, IdleServicesKeep, answers_to, ServicesTake, ServicesPush}
use Rattle.sal_transit.proofs.Changing.{took_none}
use Rattle.sal_transit.proofs.Net.{found_peers}
use Rattle.sal_transit.proofs.Worlds.{datagrams, ends_of, theatre_put, service_put, theatre_has, service_has, sends, takes, pushes, marked_same, datagram_at, packets_added}

-- ---- packets that were delivered

pub marks_keep : MarksKeepLetters
unfolding letters letters_between
marks_keep w i x stands got = record {
  stands = record {
    nodes = record { few = stands.nodes.few; theatre_count = stands.nodes.theatre_count; theatres = stands.nodes.theatres; services = stands.nodes.services };
    net = subst (λ ds. NetStands w.plan ds (ends_of w)) (sym (marked_same w.packets i x got)) stands.net;
  };
  pieces = record { weighs = λ f. refl };
}

-- ---- theatres

theatre_sends : (w : World) (k : ℕ) (t : Theatre) (x : Turned) (ps : List Parcel) → LinksStand w → theatre_at k w ≡ Some t → IsSameNode t x.theatre
    → AreOfferedBy k w.plan ps → offer_all ps t.links ≡ Some x.theatre.links → Moves w (after_theatre k x w).1 [] (sent_pieces ps)
theatre_sends w k t x ps stands got same good e =
    sends w (after_theatre k x w).1 k x.theatre.links (theatre_put w stands.nodes w.packets (listed k x.told w.lists) k t x.theatre got same) stands refl ps good
    (ap (offer_all ps) (theatre_has w stands.nodes k t got) ∙ e)

finished_is : (t : Theatre) (d : Desk) (took : Bool) (links : List Link) → offer_all d.sent d.theatre.links ≡ Some links
    → finished t took d ≡ record { theatre = record d.theatre { links = links }; told = d.told; took = took }
unfolding finished
finished_is t d took links e = ap (λ (o : Option (List Link)). offered_or o t took d) e

pub theatres_send : TheatresSend
theatres_send w k t d took links stands got same kept good e =
    let x : Turned = record { theatre = record d.theatre { links = links }; told = d.told; took = took } in
    subst (λ (y : Turned). Moves w (after_theatre k y w).1 [] (sent_pieces d.sent)) (sym (finished_is t d took links e))
    (theatre_sends w k t x d.sent stands got (record { me = same.me; plan = same.plan }) good (ap (offer_all d.sent) (sym kept) ∙ e))

pub idle_theatres : IdleTheatresKeep
unfolding offer_all
idle_theatres w k t x stands got same =
    theatre_sends w k t x [] stands got (record { me = ap (λ (y : Theatre). y.me) same; plan = ap (λ (y : Theatre). y.plan) same }) tt (ap (λ (y : Theatre). Some y.links) (sym same))

pub theatres_take : TheatresTake
theatres_take w k i x t d took links stands got packet to same kept good e =
    let y : Turned = record { theatre = record d.theatre { links = links }; told = d.told; took = took } in
    let here = theatre_has w stands.nodes k t got in
    let v : World = (after_theatre k y (mark_delivered i x w)).1 in
    let done = takes w v k links (theatre_put w stands.nodes (slice_set w.packets i (record x { delivered = true })) (listed k d.told w.lists) k t y.theatre got (record { me = same.me; plan = same.plan })) stands
    (marked_same w.packets i x packet) i x.datagram (datagram_at w.packets i x packet) to d.sent good
    (ap (λ ls. offer_all d.sent (take_datagram x.datagram.bytes ls).links) here ∙ ap (offer_all d.sent) (sym kept) ∙ e) in
    subst (λ (z : Turned). Moves w (after_theatre k z (mark_delivered i x w)).1 (taken_pieces (take_datagram x.datagram.bytes t.links).taken) (sent_pieces d.sent)) (sym (finished_is t d took links e))
    (subst (λ ls. Moves w v (taken_pieces (take_datagram x.datagram.bytes ls).taken) (sent_pieces d.sent)) here done)

pub theatres_push : TheatresPush
unfolding due_datagrams turns.push
theatres_push w k t stands got =
    let here = theatre_has w stands.nodes k t got in
    pushes w (put_packets (due_datagrams t) (put_theatre k (turns.push t) w)) k (push_all t.clock t.links)
    (theatre_put w stands.nodes (w.packets ++ map packet_of (due_datagrams t)) w.lists k t (turns.push t) got (record { me = refl; plan = refl })) stands t.clock
    (ap (push_all t.clock) (sym here)) (packets_added w.packets (due_datagrams t) ∙ ap (λ ls. datagrams w.packets ++ due_on t.clock ls) (sym here))

-- ---- naming services

service_sends : (w : World) (j : ℕ) (s : Service) (x : Service × Served) (ps : List Parcel) → LinksStand w → slice_get w.services j ≡ Some s → x.0.number ≡ s.number → x.0.plan ≡ s.plan
    → AreOfferedBy (FIRST_SERVICE + j) w.plan ps → offer_all ps s.links ≡ Some x.0.links → Moves w (after_service j x w).1 [] (sent_pieces ps)
service_sends w j s x ps stands got number plan good e =
    sends w (after_service j x w).1 (FIRST_SERVICE + j) x.0.links
    (service_put w stands.nodes w.packets (listed (FIRST_SERVICE + j) (told_of x.1.decision) w.lists) j s x.0 got number plan) stands refl ps good
    (ap (offer_all ps) (service_has w stands.nodes j s got) ∙ e)

pub idle_services : IdleServicesKeep
unfolding offer_all
idle_services w j s x stands got number plan links = service_sends w j s x [] stands got number plan tt (ap Some (sym links))

served_is : (s : Service) (bytes : List ℕ) (links : List Link) → offer_all (answers_to s bytes) (take_datagram bytes s.links).links ≡ Some links
    → ((service_datagram bytes s).0.links ≡ links) × ((service_datagram bytes s).0.number ≡ s.number) × ((service_datagram bytes s).0.plan ≡ s.plan)
unfolding service_datagram after_datagram
served_is s bytes links e = (
  ap (λ (o : Option (List Link)).
      (answer_or_idle s.names s.links (take_datagram bytes s.links).changed (serve_taken s.number s.plan (take_datagram bytes s.links).taken s.names) o).links) e,
  refl,
  refl,
)

spelling_some : (e : Envelope) → 1 ≤ length (envelope_spelling e)
unfolding envelope_spelling
spelling_some (envelope.Call hops m) = omega arith
spelling_some (envelope.Reply hops r v) = omega arith
spelling_some (envelope.Create a) = omega arith
spelling_some (envelope.Move packed) = omega arith
spelling_some (envelope.Put maker serial u place) = omega arith
spelling_some (envelope.PutReply maker serial bound) = omega arith
spelling_some (envelope.Get u) = omega arith
spelling_some (envelope.GetReply u found) = omega arith
spelling_some (envelope.Update u place moves) = omega arith

-- who is answered has a link
answers_good : (w : World) (j : ℕ) (s : Service) (bytes : List ℕ) → LinksStand w → slice_get w.services j ≡ Some s
    → AreOfferedBy (FIRST_SERVICE + j) w.plan (answers_to s bytes)
unfolding take_datagram
answers_good w j s bytes stands got = at (link_to (sender_of bytes) s.links) refl
  where
    known : are_peers (FIRST_SERVICE + j) (sender_of bytes) w.plan ≡ true → (o : Option Envelope) → AreOfferedBy (FIRST_SERVICE + j) w.plan (parcels_to (sender_of bytes) o)
    known peer None = tt
    known peer (Some e) = (record { peer = peer; some = spelling_some e }, tt)

    at : (o : Option Link) → link_to (sender_of bytes) s.links ≡ o → AreOfferedBy (FIRST_SERVICE + j) w.plan (answers_to s bytes)
    at None e =
        subst (λ (k : Taken). AreOfferedBy (FIRST_SERVICE + j) w.plan (parcels_to (sender_of bytes) (serve_taken s.number s.plan k s.names).answer))
        (sym (took_none (sender_of bytes) bytes s.links e).0) tt
    at (Some r) e =
        known
        (found_peers w.plan (datagrams w.packets) (ends_of w) stands.net (FIRST_SERVICE + j) (sender_of bytes) r
        (ap (link_to (sender_of bytes)) (service_has w stands.nodes j s got) ∙ e))
        (serve_taken s.number s.plan (take_datagram bytes s.links).taken s.names).answer

pub services_take : ServicesTake
services_take w j i x s links stands got packet to e =
    let good = answers_good w j s x.datagram.bytes stands got in
    let y : Service × Served = service_datagram x.datagram.bytes s in
    let is = served_is s x.datagram.bytes links e in
    let here = service_has w stands.nodes j s got in
    let v : World = (after_service j y (mark_delivered i x w)).1 in
    let ps : List Parcel = answers_to s x.datagram.bytes in
    let done = takes w v (FIRST_SERVICE + j) y.0.links
    (service_put w stands.nodes (slice_set w.packets i (record x { delivered = true })) (listed (FIRST_SERVICE + j) (told_of y.1.decision) w.lists) j s y.0 got is.1 is.2) stands
    (marked_same w.packets i x packet) i x.datagram (datagram_at w.packets i x packet) to ps good
    (ap (λ ls. offer_all ps (take_datagram x.datagram.bytes ls).links) here ∙ e ∙ ap Some (sym is.0)) in
    subst (λ ls. Moves w v (taken_pieces (take_datagram x.datagram.bytes ls).taken) (sent_pieces ps)) here done

pub services_push : ServicesPush
unfolding service_due service_push
services_push w j s stands got =
    let here = service_has w stands.nodes j s got in
    pushes w (put_packets (service_due s) (put_service j (service_push s) w)) (FIRST_SERVICE + j) (push_all s.clock s.links)
    (service_put w stands.nodes (w.packets ++ map packet_of (service_due s)) w.lists j s (service_push s) got refl refl) stands s.clock
    (ap (push_all s.clock) (sym here)) (packets_added w.packets (service_due s) ∙ ap (λ ls. datagrams w.packets ++ due_on s.clock ls) (sym here))
