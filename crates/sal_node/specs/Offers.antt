-- What offers answer.
use Rattle.std.specs.Prelude.{◌≡◌, ℕ, ◌≤◌, List, length, Some, None, Result, Ok, Err, All}
use Rattle.sal_carriage.specs.declared.datagram.OfferFault.{OfferFault}
use Rattle.sal_carriage.specs.declared.datagram.OfferFault.TheVariants.{Spent, Memory}
use Rattle.sal_carriage.specs.Link.{Link, envelope_limit}
use Rattle.sal_node.specs.declared.parcel.Parcel.{Parcel}
use Rattle.sal_node.specs.Links.{offer_to, offer_all}

-- 1 to 16,777,216 bytes
pub record IsParcel (bytes : List ℕ) : Type 0 where
  pub least : 1 ≤ length bytes
  pub most : length bytes ≤ envelope_limit

abbrev pub AreParcels : List Parcel → Type 0
AreParcels ps = All (λ p. IsParcel p.bytes) ps

-- An envelope is offered, unless its link is spent. Else nothing changes.
abbrev pub Offers : ℕ → List ℕ → List Link → Result (Unit {0}) OfferFault → List Link → Type 0
Offers node bytes old (Ok done) new = offer_to node bytes old ≡ Some new
Offers node bytes old (Err Spent) new = (offer_to node bytes old ≡ None) × (new ≡ old)
Offers node bytes old (Err Memory) new = new ≡ old

-- All of them are offered, unless a link is spent. Else nothing changes.
abbrev pub OffersAll : List Parcel → List Link → Result (Unit {0}) OfferFault → List Link → Type 0
OffersAll ps old (Ok done) new = offer_all ps old ≡ Some new
OffersAll ps old (Err Spent) new = (offer_all ps old ≡ None) × (new ≡ old)
OffersAll ps old (Err Memory) new = new ≡ old
