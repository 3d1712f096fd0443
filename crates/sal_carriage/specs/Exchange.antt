-- Two nodes, and the network between them, which loses, repeats and reorders what they send, and invents nothing.
use Rattle.std.specs.Prelude.{◌≡◌, ℕ, nat_le, Bool, true, ◌&&◌, if◌then◌else◌, List, [], ◌∷◌, ◌++◌, length, map, slice_get, Option, Some, None}
use Rattle.std.specs.List.{flat_map}
use Rattle.sal_carriage.specs.Frames.{Frame, frame_bytes, frame_of}
use Rattle.sal_carriage.specs.Link.{Link, new_link, envelope_limit, fragments, has_room, offer, due, push, take_bytes, is_acknowledged}
use Rattle.sal_carriage.specs.Laws.{load_of, envelope_of, WasSent}

-- One of the two: its end of the link; the envelopes that were offered there, and those that it handed out, oldest
-- first; and the datagrams that it ever sent.
pub record Side : Type 0 where
  pub link : Link
  pub offers : List (List ℕ)
  pub outputs : List (List ℕ)
  pub packets : List (List ℕ)

-- What happens at a side: an envelope is offered; what is due at this moment is sent; the packet with this number, of
-- all that the other side ever sent, arrives. It may have arrived before, or never arrive.
pub data Happening : Type 0 where
  Offers : List ℕ → Happening
  Sends : ℕ → Happening
  Takes : ℕ → Happening

-- the condition of an offer, and that the link isn't spent
abbrev pub is_taken_in : List ℕ → Link → Bool
is_taken_in envelope l = nat_le 1 (length envelope) && (nat_le (length envelope) envelope_limit && has_room envelope l)

abbrev pub take_packet : Option (List ℕ) → Side → Side
take_packet None s = s
take_packet (Some bytes) s = record s { link = (take_bytes bytes s.link).1; outputs = s.outputs ++ envelope_of (take_bytes bytes s.link).0 }

-- the side after that, where this is the other side
abbrev pub side_after : Happening → Side → Side → Side
side_after (Offers envelope) own other =
    if is_taken_in envelope own.link then record own { link = offer envelope own.link; offers = own.offers ++ envelope ∷ [] } else own
side_after (Sends now) own other = record own { link = push now own.link; packets = own.packets ++ map frame_bytes (due now own.link) }
side_after (Takes number) own other = take_packet (slice_get other.packets number) own

-- it happens at the first side, or else at the second
abbrev pub step : Bool × Happening → Side × Side → Side × Side
step event sides =
    if event.0 then (side_after event.1 sides.0 sides.1, sides.1) else (sides.0, side_after event.1 sides.1 sides.0)

abbrev pub after : List (Bool × Happening) → Side × Side → Side × Side
after [] sides = sides
after (event ∷ events) sides = after events (step event sides)

abbrev pub new_side : List ℕ → ℕ → ℕ → Side
new_side program me peer = record { link = new_link program me peer; offers = []; outputs = []; packets = [] }

-- two nodes that run one program
abbrev pub new_sides : List ℕ → ℕ → ℕ → Side × Side
new_sides program a b = (new_side program a b, new_side program b a)

-- ---- what holds of them

-- What is handed out are the first of the envelopes that were offered, and all of them where all is acknowledged.
pub record InOrder (sender receiver : Side) : Type 0 where
  pub left : List (List ℕ)
  pub prefix : sender.offers ≡ receiver.outputs ++ left
  pub whole : is_acknowledged sender.link ≡ true → receiver.outputs ≡ sender.offers

-- what the fragments of these envelopes carry
abbrev pub loads : List (List ℕ) → List (List ℕ × Bool)
loads envelopes = flat_map (λ envelope. map load_of (fragments envelope)) envelopes

-- A packet is a frame that carries what was offered under its number, and acknowledges no more than its sender took.
pub record IsPacket (all : List (List ℕ × Bool)) (sender : Link) (bytes : List ℕ) : Type 0 where
  pub frame : Frame
  pub reads : frame_of bytes ≡ Some frame
  pub honest : WasSent all sender frame

abbrev pub ArePackets : List (List ℕ × Bool) → Link → List (List ℕ) → Type 0
ArePackets all sender [] = Unit {0}
ArePackets all sender (bytes ∷ more) = IsPacket all sender bytes × ArePackets all sender more

abbrev pub IsHonestSide : Side → Type 0
IsHonestSide s = ArePackets (loads s.offers) s.link s.packets

pub record KeepsOrder (sides : Side × Side) : Type 0 where
  pub there : InOrder sides.0 sides.1
  pub back : InOrder sides.1 sides.0
  pub first : IsHonestSide sides.0
  pub second : IsHonestSide sides.1

-- Whatever happens, in whichever order.
abbrev pub LinksKeepOrder : Type 0
LinksKeepOrder = (program : List ℕ) (a b : ℕ) (events : List (Bool × Happening)) → length program ≡ 8 → KeepsOrder (after events (new_sides program a b))
