-- What is in transit between two nodes, and which frames an honest network delivers.
use Rattle.std.specs.Prelude.{◌≡◌, ℕ, ◌-◌, ◌<◌, ◌≤◌, ◌⊎◌, if◌then◌else◌, true, List, [], ◌∷◌, ◌++◌, drop, slice_get, Some}
use Rattle.sal_carriage.specs.Frames.{Frame}
use Rattle.sal_carriage.specs.declared.fragment.Fragment.{Fragment}
use Rattle.sal_carriage.specs.Link.{Link, offer_count}

-- envelopes from their fragments, where these bytes were taken of the first one
unfoldable pub envelopes_of : List ℕ → List Fragment → List (List ℕ)
envelopes_of part [] = []
envelopes_of part (f ∷ fs) = if f.last then (part ++ f.payload) ∷ envelopes_of [] fs else envelopes_of (part ++ f.payload) fs

-- what is left after the last whole envelope
unfoldable pub open_end : List ℕ → List Fragment → List ℕ
open_end part [] = part
open_end part (f ∷ fs) = if f.last then open_end [] fs else open_end (part ++ f.payload) fs

-- the sender's fragments that the receiver hasn't taken
abbrev pub left_to_take : Link → Link → List Fragment
left_to_take sender receiver = drop (receiver.wanted - sender.acknowledged) sender.unacknowledged

-- each envelope that was offered and whose last fragment isn't taken, oldest first
unfoldable pub in_transit : Link → Link → List (List ℕ)
in_transit sender receiver = envelopes_of receiver.part (left_to_take sender receiver)

-- only whole envelopes are in transit
abbrev pub IsWhole : Link → Link → Type 0
IsWhole sender receiver = open_end receiver.part (left_to_take sender receiver) ≡ []

-- ---- what two ends keep

-- The two are the ends of one link.
pub record ArePeers (sender receiver : Link) : Type 0 where
  pub program : sender.program ≡ receiver.program
  pub there : sender.peer ≡ receiver.me
  pub here : receiver.peer ≡ sender.me

-- The receiver took what was acknowledged, and nothing that wasn't offered.
pub record IsInStep (sender receiver : Link) : Type 0 where
  pub peers : ArePeers sender receiver
  pub taken : sender.acknowledged ≤ receiver.wanted
  pub offered : receiver.wanted ≤ offer_count sender

-- the fragment with the frame's number is the one that the frame carries
abbrev pub CarriesOffered : Link → Frame → Type 0
CarriesOffered sender f =
    (old : Fragment) × (slice_get sender.unacknowledged (f.number - sender.acknowledged) ≡ Some old) × (old.payload ≡ f.payload) × (old.last ≡ f.last)

-- A frame that the sender sent at some time: it acknowledges what the sender took, and carries a fragment that the
-- receiver took already, or one that was offered under its number.
pub record IsHonest (sender receiver : Link) (f : Frame) : Type 0 where
  pub wanted : f.wanted ≤ sender.wanted
  pub carries : f.is_data ≡ true → (f.number < receiver.wanted) ⊎ ((sender.acknowledged ≤ f.number) × CarriesOffered sender f)
