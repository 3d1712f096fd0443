-- One link, as one of its two nodes keeps it: what it sends to its peer, and what it takes from there.
use Rattle.std.specs.Prelude.{ℕ, zero, suc, ◌+◌, ◌-◌, ◌/◌, Bool, true, false, ◌&&◌, ◌||◌, not, if◌then◌else◌, nat_eq, nat_le, nat_lt, List, [], ◌∷◌, ◌++◌, length, map, take, drop, Option, Some, None}
use Rattle.std.specs.Str.{bytes_eq}
use Rattle.sal_carriage.specs.declared.fragment.Fragment.{Fragment}
use Rattle.sal_carriage.specs.declared.datagram.Datagram.{Datagram}
use Rattle.sal_carriage.specs.declared.datagram.Taken.{Taken}
use Rattle.sal_carriage.specs.declared.datagram.Taken.TheVariants as taken
use Rattle.sal_carriage.specs.Frames.{Frame, fragment_size, frame_bytes, frame_of}

-- A link of node `me` to `peer`.
-- Sending: the fragments that aren't known to be acknowledged, and how many before them are. Fragments are
-- numbered from 0 in the order in which they were offered.
-- Taking: the number that is wanted next, which is how many fragments were taken; the bytes of those that were
-- taken of an envelope that isn't whole yet; and whether an acknowledgement is due.
pub record Link : Type 0 where
  pub program : List ℕ
  pub me : ℕ
  pub peer : ℕ
  pub unacknowledged : List Fragment
  pub acknowledged : ℕ
  pub wanted : ℕ
  pub part : List ℕ
  pub owes : Bool

abbrev pub new_link : List ℕ → ℕ → ℕ → Link
new_link program me peer = record { program = program; me = me; peer = peer; unacknowledged = []; acknowledged = 0; wanted = 0; part = []; owes = false }

abbrev pub window : ℕ
window = 32

-- in milliseconds
abbrev pub resend_time : ℕ
resend_time = 200

abbrev pub envelope_limit : ℕ
envelope_limit = 16777216

-- numbers are below this one
abbrev pub number_limit : ℕ
number_limit = 18446744073709551615

-- ---- offering

-- how many fragments the bytes make
abbrev pub fragment_count : List ℕ → ℕ
fragment_count bytes = (length bytes + (fragment_size - 1)) / fragment_size

-- no more fragments follow
abbrev pub none_follow : ℕ → Bool
none_follow zero = true
none_follow (suc n) = false

-- so many fragments: each has 1,024 bytes, and the last one what is left
unfoldable pub cut_in : ℕ → List ℕ → List Fragment
cut_in zero bytes = []
cut_in (suc n) bytes = record { payload = take fragment_size bytes; last = none_follow n; sent = None } ∷ cut_in n (drop fragment_size bytes)

unfoldable pub fragments : List ℕ → List Fragment
fragments envelope = cut_in (fragment_count envelope) envelope

-- how many fragments were offered
abbrev pub offer_count : Link → ℕ
offer_count l = l.acknowledged + length l.unacknowledged

-- There are numbers for its fragments. Where there aren't, the link is spent.
abbrev pub has_room : List ℕ → Link → Bool
has_room envelope l = nat_le (offer_count l + fragment_count envelope) number_limit

unfoldable pub offer : List ℕ → Link → Link
offer envelope l = record l { unacknowledged = l.unacknowledged ++ fragments envelope }

-- ---- sending

-- it was never sent, or not for 200 ms
abbrev pub is_old : ℕ → Option ℕ → Bool
is_old now None = true
is_old now (Some moment) = nat_le (moment + resend_time) now

abbrev pub is_due : ℕ → Fragment → Bool
is_due now f = is_old now f.sent

-- the frame of the fragment with this number
abbrev pub data_frame : Link → ℕ → Fragment → Frame
data_frame l number f =
    record { program = l.program; from = l.me; to = l.peer; is_data = true; number = number; wanted = l.wanted; last = f.last; payload = f.payload }

abbrev pub acknowledgement : Link → Frame
acknowledgement l = record { program = l.program; from = l.me; to = l.peer; is_data = false; number = 0; wanted = l.wanted; last = false; payload = [] }

-- the frame of this fragment, where it is due
abbrev pub if_due : ℕ → Link → ℕ → Fragment → List Frame
if_due now l number f = if is_due now f then data_frame l number f ∷ [] else []

-- the frames of those of these fragments that are due; the first one has this number
unfoldable pub due_data : ℕ → Link → ℕ → List Fragment → List Frame
due_data now l number [] = []
due_data now l number (f ∷ fs) = if_due now l number f ++ due_data now l (number + 1) fs

-- only where no fragment is due, an acknowledgement may be
abbrev pub or_acknowledgement : Link → List Frame → List Frame
or_acknowledgement l [] = if l.owes then acknowledgement l ∷ [] else []
or_acknowledgement l (f ∷ fs) = f ∷ fs

-- what is due: of the first 32 fragments those that are due, in their order
unfoldable pub due : ℕ → Link → List Frame
due now l = or_acknowledgement l (due_data now l l.acknowledged (take window l.unacknowledged))

abbrev pub datagram_of : Frame → Datagram
datagram_of f = record { to = f.to; bytes = frame_bytes f }

-- the moment is a due fragment's last sending
abbrev pub mark : ℕ → Fragment → Fragment
mark now f = if is_due now f then record f { sent = Some now } else f

-- the fragments once those that are due of the first so many are sent
abbrev pub mark_first : ℕ → ℕ → List Fragment → List Fragment
mark_first count now fs = map (mark now) (take count fs) ++ drop count fs

-- every frame tells the wanted number, so no acknowledgement is due after it
abbrev pub owes_after : {X : Type 0} → List X → Bool → Bool
owes_after [] owes = owes
owes_after (frame ∷ frames) owes = false

-- the link once they are sent
unfoldable pub push : ℕ → Link → Link
push now l = record l { unacknowledged = mark_first window now l.unacknowledged; owes = owes_after (due now l) l.owes }

-- ---- taking

-- the frame is of this program, from the peer, to this node
abbrev pub is_for : Frame → Link → Bool
is_for f l = bytes_eq f.program l.program && (nat_eq f.from l.peer && nat_eq f.to l.me)

-- It is wanted, but it would make an envelope that is too long, or has the one number that no link gives.
abbrev pub is_too_much : Frame → Link → Bool
is_too_much f l = f.is_data && (nat_eq f.number l.wanted && (nat_lt envelope_limit (length l.part + length f.payload) || nat_le number_limit f.number))

-- so many fragments were offered, and it isn't known yet that they were taken
abbrev pub tells_more : ℕ → Link → Bool
tells_more wanted l = nat_lt l.acknowledged wanted && nat_le wanted (offer_count l)

-- the fragments below this number were taken
unfoldable pub acknowledge : ℕ → Link → Link
acknowledge wanted l =
    if tells_more wanted l
    then record l { acknowledged = wanted; unacknowledged = drop (wanted - l.acknowledged) l.unacknowledged }
    else l

-- The fragment that is wanted. The last one of an envelope makes it whole.
abbrev pub take_wanted : Frame → Link → Taken × Link
take_wanted f l =
    if f.last
    then (taken.Envelope (l.part ++ f.payload), record l { wanted = l.wanted + 1; part = []; owes = true })
    else (taken.Part, record l { wanted = l.wanted + 1; part = l.part ++ f.payload; owes = true })

-- each fragment makes an acknowledgement due, taken or not
abbrev pub take_data : Frame → Link → Taken × Link
take_data f l =
    if nat_lt f.number l.wanted then (taken.Old, record l { owes = true })
    else if nat_lt l.wanted f.number then (taken.Ahead, record l { owes = true })
    else take_wanted f l

abbrev pub take_accepted : Frame → Link → Taken × Link
take_accepted f l = if f.is_data then take_data f (acknowledge f.wanted l) else (taken.Acknowledged, acknowledge f.wanted l)

abbrev pub accepts : Frame → Link → Bool
accepts f l = is_for f l && not (is_too_much f l)

-- what isn't for this link changes nothing
abbrev pub take_frame : Option Frame → Link → Taken × Link
take_frame None l = (taken.Noise, l)
take_frame (Some f) l = if accepts f l then take_accepted f l else (taken.Noise, l)

-- what the link makes of these bytes, and the link after them
unfoldable pub take_bytes : List ℕ → Link → Taken × Link
take_bytes bytes l = take_frame (frame_of bytes) l

-- a fragment was taken
abbrev pub is_taken : Taken → Bool
is_taken (taken.Envelope bytes) = true
is_taken taken.Part = true
is_taken taken.Old = false
is_taken taken.Ahead = false
is_taken taken.Acknowledged = false
is_taken taken.Noise = false

-- ---- at rest

abbrev pub is_empty : {X : Type 0} → List X → Bool
is_empty [] = true
is_empty (x ∷ xs) = false

-- all that was offered is acknowledged
abbrev pub is_acknowledged : Link → Bool
is_acknowledged l = is_empty l.unacknowledged

-- and no acknowledgement is due
abbrev pub is_idle : Link → Bool
is_idle l = is_acknowledged l && not l.owes
