-- Taking an envelope in two halves: what it brings is told first, and then it is taken without memory.
use Rattle.std.specs.Prelude.{◌≡◌, ℕ, ◌≤◌, Bool, true, false, if◌then◌else◌, nat_eq, List, [], ◌∷◌, length, Option, Some, None, option_map}
use Rattle.sal_carriage.specs.declared.arrival.Arrival.{Arrival}
use Rattle.sal_carriage.specs.declared.datagram.Taken.TheVariants as taken
use Rattle.sal_carriage.specs.Link.{Link}
use Rattle.sal_carriage.specs.Halves.{CanComplete, complete, is_envelope}
use Rattle.sal_node.specs.declared.parcel.Parcel.{Parcel}
use Rattle.sal_node.specs.Links.{Taking, offer_all, sender_of, take_datagram}

-- the first link to the peer completes an envelope, with which so many fragments more are acknowledged
unfoldable pub complete_from : ℕ → ℕ → List Link → List Link
complete_from peer count [] = []
complete_from peer count (l ∷ ls) = if nat_eq l.peer peer then complete count l ∷ ls else l ∷ complete_from peer count ls

abbrev pub CanCompleteIf : Bool → ℕ → Link → Type 0 → Type 0
CanCompleteIf true count l rest = CanComplete count l
CanCompleteIf false count l rest = rest

-- it can
unfoldable pub CanCompleteFrom : ℕ → ℕ → List Link → Type 0
CanCompleteFrom peer count [] = Unit {0}
CanCompleteFrom peer count (l ∷ ls) = CanCompleteIf (nat_eq l.peer peer) count l (CanCompleteFrom peer count ls)

-- These bytes complete this envelope.
pub record Completes (bytes : List ℕ) (links : List Link) (a : Arrival) : Type 0 where
  pub taking : take_datagram bytes links ≡ record { taken = taken.Envelope a.envelope; changed = true; links = complete_from (sender_of bytes) a.acknowledges links }
  pub can : CanCompleteFrom (sender_of bytes) a.acknowledges links

-- The envelope that the bytes complete, or none where they complete none.
abbrev pub IsArrival : List ℕ → List Link → Option Arrival → Type 0
IsArrival bytes links None = is_envelope (take_datagram bytes links).taken ≡ false
IsArrival bytes links (Some a) = Completes bytes links a

-- Envelopes may be offered between the two halves.
pub record OffersAreMadeBetweenHalves : Type 0 where
  pub offers : (ps : List Parcel) (peer count : ℕ) (links : List Link) → CanCompleteFrom peer count links
      → offer_all ps (complete_from peer count links) ≡ option_map (complete_from peer count) (offer_all ps links)
  pub can : (ps : List Parcel) (peer count : ℕ) (links after : List Link) → CanCompleteFrom peer count links
      → offer_all ps links ≡ Some after → CanCompleteFrom peer count after
