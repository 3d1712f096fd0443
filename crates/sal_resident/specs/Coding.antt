-- Laws of packing and unpacking actors.
use Rattle.std.specs.Prelude.{◌≡◌, ℕ, ◌<◌, Bool, true, ◌&&◌, List, ◌∷◌, ◌++◌, length, take, IsTrue, Option, Some, None, Ok, Err}
use Rattle.std.specs.List.{list_all}
use Rattle.sal_value.specs.declared.value.Value.{Value}
use Rattle.sal_value.specs.declared.value.DecodeFault.TheVariants.{Cut, Bad}
use Rattle.sal_value.specs.Coding.{in_range, IsBytes}
use Rattle.sal_mail.specs.declared.message.Message.{Message}
use Rattle.sal_mail.specs.declared.message.Join.{Join}
use Rattle.sal_envelope.specs.Coding.{is_u16, is_u32, is_u64, reply_in_range, message_in_range}
use Rattle.sal_book.specs.Book.{Book}
use Rattle.sal_resident.specs.declared.resident.Resident.{Resident}
use Rattle.sal_resident.specs.Packing.{packed_actor, is_packable}
use Rattle.sal_resident.specs.Unpacking.{unpacked_actor}

-- ---- the actors that the program's types hold: numbers are in their types' ranges

abbrev pub waiting_in_range : Message → Bool
waiting_in_range m = message_in_range m && (list_all is_u64 m.after && is_u32 m.delay)

abbrev pub slot_in_range : Option Value → Bool
slot_in_range None = true
slot_in_range (Some v) = in_range v

abbrev pub join_in_range : Join → Bool
join_in_range j = is_u64 j.number && (list_all slot_in_range j.places && reply_in_range j.reply)

abbrev pub state_in_range : Resident → Bool
state_in_range r = is_u64 r.moves && (is_u16 r.behavior && (list_all in_range r.fields && is_u64 r.serial))

abbrev pub book_in_range : Book → Bool
book_in_range b = list_all waiting_in_range b.messages && list_all join_in_range b.joins

abbrev pub resident_in_range : Resident → Bool
resident_in_range r = state_in_range r && (book_in_range r.book && list_all message_in_range r.mailbox)

-- ---- the laws

-- What is packed is unpacked.
abbrev pub PackedActorsAreUnpacked : Type 0
PackedActorsAreUnpacked =
    (r : Resident) → IsTrue (resident_in_range r) → IsTrue (is_packable r) → unpacked_actor (packed_actor r) ≡ Ok r

-- What is unpacked can be packed, and this gives the bytes.
abbrev pub UnpackedActorsArePacked : Type 0
UnpackedActorsArePacked =
    (bytes : List ℕ) (r : Resident) → IsBytes bytes → unpacked_actor bytes ≡ Ok r → IsTrue (is_packable r) × (bytes ≡ packed_actor r)

-- What follows a packed actor is bad at its place, and it is cut wherever it ends too early. A field that is wrong
-- stays so, whatever follows.
pub record PackedActorsAreDelimited : Type 0 where
  pub longer :
      (r : Resident) (b : ℕ) (rest : List ℕ) → IsTrue (resident_in_range r) → IsTrue (is_packable r)
      → unpacked_actor (packed_actor r ++ b ∷ rest) ≡ Err (Bad (length (packed_actor r)))
  pub shorter :
      (r : Resident) (size : ℕ) → IsTrue (resident_in_range r) → IsTrue (is_packable r) → size < length (packed_actor r)
      → unpacked_actor (take size (packed_actor r)) ≡ Err Cut
  pub wrong : (bytes more : List ℕ) (place : ℕ) → unpacked_actor bytes ≡ Err (Bad place) → unpacked_actor (bytes ++ more) ≡ Err (Bad place)
