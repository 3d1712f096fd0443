-- Links with more offers than before, and their withdrawal.
use Rattle.std.specs.Prelude.{◌≡◌, ℕ, ◌≤◌, List, [], ◌∷◌, map, length, Some, None, Result, Ok, Err}
use Rattle.sal_carriage.specs.declared.datagram.OfferFault.{OfferFault}
use Rattle.sal_carriage.specs.declared.datagram.OfferFault.TheVariants.{Spent, Memory}
use Rattle.sal_carriage.specs.Link.{Link}
use Rattle.sal_carriage.specs.Halves.{withdraw}
use Rattle.sal_node.specs.declared.parcel.Parcel.{Parcel}
use Rattle.sal_node.specs.Links.{offer_all}

-- how many fragments of each link aren't known to be acknowledged
abbrev pub lengths_of : List Link → List ℕ
lengths_of links = map (λ l. length l.unacknowledged) links

-- on each link what was offered after so many fragments is withdrawn
unfoldable pub withdraw_all : List ℕ → List Link → List Link
withdraw_all [] links = links
withdraw_all (n ∷ ns) [] = []
withdraw_all (n ∷ ns) (l ∷ ls) = withdraw n l ∷ withdraw_all ns ls

-- The later link is the earlier one with more offers.
pub record Extends (old new : Link) : Type 0 where
  pub least : length old.unacknowledged ≤ length new.unacknowledged
  pub withdrawn : withdraw (length old.unacknowledged) new ≡ old

-- each of the later links is the earlier one with more offers
unfoldable pub Extend : List Link → List Link → Type 0
Extend [] [] = Unit {0}
Extend [] (m ∷ ms) = ⊥
Extend (l ∷ ls) [] = ⊥
Extend (l ∷ ls) (m ∷ ms) = Extends l m × Extend ls ms

-- what offers leave before a failed one is withdrawn
abbrev pub OffersEach : List Parcel → List Link → Result (Unit {0}) OfferFault → List Link → Type 0
OffersEach ps old (Ok done) new = offer_all ps old ≡ Some new
OffersEach ps old (Err Spent) new = (offer_all ps old ≡ None) × Extend old new
OffersEach ps old (Err Memory) new = Extend old new
