-- What arriving frames do to links.
use Rattle.std.specs.Prelude.{◌≡◌, ℕ, ◌+◌, ◌≤◌, Bool, true, false, List, [], ◌∷◌, ◌++◌, length, map, drop, slice_get, Some}
use Rattle.sal_carriage.specs.declared.datagram.Taken.{Taken}
use Rattle.sal_carriage.specs.declared.datagram.Taken.TheVariants as taken
use Rattle.sal_carriage.specs.Frames.{Frame}
use Rattle.sal_carriage.specs.declared.fragment.Fragment.{Fragment}
use Rattle.sal_carriage.specs.Link.{Link, new_link, fragments, offer, due, push, is_taken, take_frame, take_bytes}
use Rattle.sal_carriage.specs.Transit.{in_transit, IsWhole, IsInStep, IsHonest}

-- The link is as before, but for what it knows to be acknowledged and whether it owes an acknowledgement.
pub record OnlyAcknowledges (old new : Link) : Type 0 where
  pub count : ℕ
  pub known : count ≤ length old.unacknowledged
  pub link : new ≡ record old { acknowledged = old.acknowledged + count; unacknowledged = drop count old.unacknowledged; owes = new.owes }

-- Bytes that carry no wanted fragment change nothing else.
abbrev pub UnwantedFramesChangeLittle : Type 0
UnwantedFramesChangeLittle = (bytes : List ℕ) (l : Link) → is_taken (take_bytes bytes l).0 ≡ false → OnlyAcknowledges l (take_bytes bytes l).1

-- the envelope that is handed out, if one is
abbrev pub envelope_of : Taken → List (List ℕ)
envelope_of (taken.Envelope bytes) = bytes ∷ []
envelope_of taken.Part = []
envelope_of taken.Old = []
envelope_of taken.Ahead = []
envelope_of taken.Acknowledged = []
envelope_of taken.Noise = []

-- What a frame makes of the receiver's end: these envelopes, which were the first in transit to it, are in transit no
-- more, and what is in transit the other way stays. What is in transit stays whole.
pub record Crosses (sender receiver new : Link) (out : List (List ℕ)) : Type 0 where
  pub there : IsInStep sender new
  pub back : IsInStep new sender
  pub carried : in_transit sender receiver ≡ out ++ in_transit sender new
  pub other : in_transit new sender ≡ in_transit receiver sender
  pub whole : IsWhole sender receiver → IsWhole sender new
  pub other_whole : IsWhole receiver sender → IsWhole new sender

-- Whichever honest frame arrives, and however often, only the first envelope in transit is ever handed out.
abbrev pub HonestFramesCross : Type 0
HonestFramesCross =
    (s r : Link) (f : Frame) → IsInStep s r → IsInStep r s → IsHonest s r f
    → Crosses s r (take_frame (Some f) r).1 (envelope_of (take_frame (Some f) r).0)

-- ---- an honest network

-- what a fragment carries
abbrev pub load_of : Fragment → List ℕ × Bool
load_of f = (f.payload, f.last)

-- All that was ever offered on the link, of which the fragments that aren't acknowledged are the last ones.
pub record HasOffered (all : List (List ℕ × Bool)) (sender : Link) : Type 0 where
  pub rest : map load_of sender.unacknowledged ≡ drop sender.acknowledged all
  pub known : sender.acknowledged ≤ length all

-- A frame that the sender sent: it carries what was offered under its number, and acknowledges no more than was taken.
pub record WasSent (all : List (List ℕ × Bool)) (sender : Link) (f : Frame) : Type 0 where
  pub wanted : f.wanted ≤ sender.wanted
  pub carries : f.is_data ≡ true → slice_get all f.number ≡ Some (f.payload, f.last)

abbrev pub WereSent : List (List ℕ × Bool) → Link → List Frame → Type 0
WereSent all sender [] = Unit {0}
WereSent all sender (f ∷ fs) = WasSent all sender f × WereSent all sender fs

-- Whatever a link does, what was offered only grows, what it sends was offered, and what was sent once is honest for ever.
pub record NetworksStayHonest : Type 0 where
  pub new : (program : List ℕ) (me peer : ℕ) → HasOffered [] (new_link program me peer)
  pub offers : (all : List (List ℕ × Bool)) (s : Link) (envelope : List ℕ) → HasOffered all s → HasOffered (all ++ map load_of (fragments envelope)) (offer envelope s)
  pub pushes : (all : List (List ℕ × Bool)) (s : Link) (now : ℕ) → HasOffered all s → HasOffered all (push now s) × WereSent all s (due now s)
  pub takes : (all : List (List ℕ × Bool)) (s : Link) (bytes : List ℕ) → HasOffered all s → HasOffered all (take_bytes bytes s).1 × (s.wanted ≤ (take_bytes bytes s).1.wanted)
  pub later : (all more : List (List ℕ × Bool)) (s t : Link) (f : Frame) → s.wanted ≤ t.wanted → WasSent all s f → WasSent (all ++ more) t f
  pub honest : (all : List (List ℕ × Bool)) (s r : Link) (f : Frame) → HasOffered all s → IsInStep s r → WasSent all s f → IsHonest s r f

-- ---- offering

-- An envelope that is offered is the last one in transit, and what is in transit stays whole.
pub record GoesLast (sender receiver : Link) (envelope : List ℕ) : Type 0 where
  pub carried : in_transit (offer envelope sender) receiver ≡ in_transit sender receiver ++ envelope ∷ []
  pub whole : IsWhole (offer envelope sender) receiver
  pub there : IsInStep (offer envelope sender) receiver
  pub other : in_transit receiver (offer envelope sender) ≡ in_transit receiver sender

abbrev pub OffersAreLast : Type 0
OffersAreLast = (s r : Link) (envelope : List ℕ) → IsInStep s r → IsWhole s r → 1 ≤ length envelope → GoesLast s r envelope

-- ---- pushing

-- What is sent stays in transit, both ways.
pub record StaysInTransit (sender receiver : Link) (now : ℕ) : Type 0 where
  pub there : IsInStep (push now sender) receiver
  pub back : IsInStep receiver sender → IsInStep receiver (push now sender)
  pub carried : in_transit (push now sender) receiver ≡ in_transit sender receiver
  pub other : in_transit receiver (push now sender) ≡ in_transit receiver sender
  pub whole : IsWhole sender receiver → IsWhole (push now sender) receiver

abbrev pub PushesChangeNothing : Type 0
PushesChangeNothing = (s r : Link) (now : ℕ) → IsInStep s r → StaysInTransit s r now
