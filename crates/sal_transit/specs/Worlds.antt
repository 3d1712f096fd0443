-- What a turn of one node does to the letters of a world, as pieces.
use Rattle.std.specs.Prelude.{◌≡◌, ℕ, ◌+◌, Bool, true, List, [], ◌++◌, length, flat_map, slice_get, Some}
use Rattle.sal_source.specs.Table.{HasSameItems}
use Rattle.sal_mail.specs.declared.plan.Plan.{Plan}
use Rattle.sal_envelope.specs.Decoding.{decoded_envelope}
use Rattle.sal_carriage.specs.declared.datagram.Taken.{Taken}
use Rattle.sal_carriage.specs.Link.{Link}
use Rattle.sal_carriage.specs.Laws.{envelope_of}
use Rattle.sal_node.specs.declared.constants.TheConstants.{FIRST_SERVICE}
use Rattle.sal_node.specs.declared.parcel.Parcel.{Parcel}
use Rattle.sal_node.specs.Links.{offer_all, sender_of, take_datagram, has_few_nodes}
use Rattle.sal_pieces.specs.Pieces.{Piece}
use Rattle.sal_routing.specs.State.{Theatre, Desk, Turned}
use Rattle.sal_routing.specs.Turns.{finished, due_datagrams}
use Rattle.sal_routing.specs.Turns as turns
use Rattle.sal_service.specs.Service.{Service, parcels_to, serve_taken, service_datagram, service_due, service_push}
use Rattle.sal_service.specs.declared.turned.Turned.{Turned as Served}
use Rattle.sal_unseen.specs.Desks.{decoded_pieces, sent_pieces}
use Rattle.sal_world.specs.declared.packet.Packet.{Packet}
use Rattle.sal_world.specs.World.{World, letters, new_world}
use Rattle.sal_world.specs.Pieces.{letter_pieces}
use Rattle.sal_world.specs.Turns.{theatre_at, service_at, put_theatre, put_service, after_theatre, after_service, mark_delivered, put_packets}
use Rattle.sal_transit.specs.Standing.{LinksStand}
use Rattle.sal_transit.specs.Letters.{AreOfferedBy}

-- Before anything was sent.
pub record IsSilent (w : World) : Type 0 where
  pub stands : LinksStand w
  pub none : letters w ≡ []

abbrev pub NewWorldsAreSilent : Type 0
NewWorldsAreSilent = (plan : Plan) (program : List ℕ) → has_few_nodes plan ≡ true → length program ≡ 8 → IsSilent (new_world plan program)

-- The links of the later world stand; and what came and the letters after it are what was sent and the letters before it.
pub record Moves (w v : World) (came sent : List Piece) : Type 0 where
  pub stands : LinksStand v
  pub pieces : HasSameItems (came ++ letter_pieces (letters v)) (sent ++ letter_pieces (letters w))

-- That a packet was delivered is only noted.
abbrev pub MarksKeepLetters : Type 0
MarksKeepLetters = (w : World) (i : ℕ) (x : Packet) → LinksStand w → slice_get w.packets i ≡ Some x → Moves w (mark_delivered i x w) [] []

-- of the envelope that was taken, if one was
abbrev pub taken_pieces : Taken → List Piece
taken_pieces taken = flat_map (λ bytes. decoded_pieces (decoded_envelope bytes)) (envelope_of taken)

-- ---- theatres

-- the same node of the same plan
pub record IsSameNode (t u : Theatre) : Type 0 where
  pub me : u.me ≡ t.me
  pub plan : u.plan ≡ t.plan

-- A turn ends with this desk; it took no datagram.
abbrev pub TheatresSend : Type 0
TheatresSend =
    (w : World) (k : ℕ) (t : Theatre) (d : Desk) (took : Bool) (links : List Link) → LinksStand w → theatre_at k w ≡ Some t
    → IsSameNode t d.theatre → d.theatre.links ≡ t.links → AreOfferedBy k w.plan d.sent → offer_all d.sent d.theatre.links ≡ Some links
    → Moves w (after_theatre k (finished t took d) w).1 [] (sent_pieces d.sent)

-- A turn ends with this desk; it took packet i.
abbrev pub TheatresTake : Type 0
TheatresTake =
    (w : World) (k i : ℕ) (x : Packet) (t : Theatre) (d : Desk) (took : Bool) (links : List Link) → LinksStand w → theatre_at k w ≡ Some t
    → slice_get w.packets i ≡ Some x → x.datagram.to ≡ k
    → IsSameNode t d.theatre → d.theatre.links ≡ (take_datagram x.datagram.bytes t.links).links → AreOfferedBy k w.plan d.sent
    → offer_all d.sent d.theatre.links ≡ Some links
    → Moves w (after_theatre k (finished t took d) (mark_delivered i x w)).1 (taken_pieces (take_datagram x.datagram.bytes t.links).taken) (sent_pieces d.sent)

-- A turn that leaves the theatre as it was, as one does that found nothing to do or a link that is spent.
abbrev pub IdleTheatresKeep : Type 0
IdleTheatresKeep =
    (w : World) (k : ℕ) (t : Theatre) (x : Turned) → LinksStand w → theatre_at k w ≡ Some t → x.theatre ≡ t
    → Moves w (after_theatre k x w).1 [] []

-- What is due is sent.
abbrev pub TheatresPush : Type 0
TheatresPush =
    (w : World) (k : ℕ) (t : Theatre) → LinksStand w → theatre_at k w ≡ Some t
    → Moves w (put_packets (due_datagrams t) (put_theatre k (turns.push t) w)) [] []

-- ---- naming services

-- A turn that changes no link of the service, as those of clocks and deletions.
abbrev pub IdleServicesKeep : Type 0
IdleServicesKeep =
    (w : World) (j : ℕ) (s : Service) (x : Service × Served) → LinksStand w → service_at j w ≡ Some s
    → x.0.number ≡ s.number → x.0.plan ≡ s.plan → x.0.links ≡ s.links
    → Moves w (after_service j x w).1 [] []

-- what the service answers to this packet
abbrev pub answers_to : Service → List ℕ → List Parcel
answers_to s bytes = parcels_to (sender_of bytes) (serve_taken s.number s.plan (take_datagram bytes s.links).taken s.names).answer

-- The service took packet i. It answers to the sender alone.
abbrev pub ServicesTake : Type 0
ServicesTake =
    (w : World) (j i : ℕ) (x : Packet) (s : Service) (links : List Link) → LinksStand w → service_at j w ≡ Some s
    → slice_get w.packets i ≡ Some x → x.datagram.to ≡ FIRST_SERVICE + j
    → offer_all (answers_to s x.datagram.bytes) (take_datagram x.datagram.bytes s.links).links ≡ Some links
    → Moves w (after_service j (service_datagram x.datagram.bytes s) (mark_delivered i x w)).1 (taken_pieces (take_datagram x.datagram.bytes s.links).taken) (sent_pieces (answers_to s x.datagram.bytes))

-- What is due is sent.
abbrev pub ServicesPush : Type 0
ServicesPush =
    (w : World) (j : ℕ) (s : Service) → LinksStand w → service_at j w ≡ Some s
    → Moves w (put_packets (service_due s) (put_service j (service_push s) w)) [] []
