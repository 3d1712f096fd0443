-- Which envelopes may be sent, and which actors may move.
use Rattle.std.specs.Prelude.{ℕ, Bool, ◌&&◌, if◌then◌else◌, nat_le, List, length, Option, Some, None, IsTrue}
use Rattle.sal_mail.specs.declared.envelope.Envelope.{Envelope}
use Rattle.sal_mail.specs.declared.envelope.Envelope.TheVariants as envelope
use Rattle.sal_envelope.specs.Spelling.{envelope_spelling, envelope_is_spelled}
use Rattle.sal_node.specs.Offers.{IsParcel}
use Rattle.sal_resident.specs.declared.resident.Resident.{Resident}
use Rattle.sal_resident.specs.Packing.{packed_actor, is_light, is_packable}

-- 1 to 16,777,216 bytes
abbrev pub is_parcel : List ℕ → Bool
is_parcel bytes = nat_le 1 (length bytes) && nat_le (length bytes) 16777216

abbrev pub if_parcel : List ℕ → Option (List ℕ)
if_parcel bytes = if is_parcel bytes then Some bytes else None

-- it has a spelling of so many bytes
unfoldable pub may_be_sent : Envelope → Bool
may_be_sent e = envelope_is_spelled e && is_parcel (envelope_spelling e)

-- the spelling of such an envelope; others have none
unfoldable pub bytes_to_send : Envelope → Option (List ℕ)
bytes_to_send e = if may_be_sent e then Some (envelope_spelling e) else None

-- it has a spelling that is short enough to move
unfoldable pub may_move : Resident → Bool
may_move r = is_packable r && is_light r

-- the spelling of such an actor; others have none
unfoldable pub bytes_to_move : Resident → Option (List ℕ)
bytes_to_move r = if may_move r then Some (packed_actor r) else None

-- ---- laws

abbrev pub SentEnvelopesAreParcels : Type 0
SentEnvelopesAreParcels = (e : Envelope) → IsTrue (may_be_sent e) → IsParcel (envelope_spelling e)

abbrev pub LightActorsMayBeSent : Type 0
LightActorsMayBeSent = (r : Resident) → IsTrue (is_light r) → IsTrue (may_be_sent (envelope.Move (packed_actor r)))
