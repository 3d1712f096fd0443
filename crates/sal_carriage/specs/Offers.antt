-- What an offer answers.
use Rattle.std.specs.Prelude.{◌≡◌, true, false, List, ℕ, Result, Ok, Err}
use Rattle.sal_carriage.specs.declared.datagram.OfferFault.{OfferFault}
use Rattle.sal_carriage.specs.declared.datagram.OfferFault.TheVariants.{Spent, Memory}
use Rattle.sal_carriage.specs.Link.{Link, has_room, offer}

-- It is taken where there is room for it. Else nothing changes, as after it found no memory.
abbrev pub Offers : List ℕ → Link → Result (Unit {0}) OfferFault → Link → Type 0
Offers envelope old (Ok done) new = (has_room envelope old ≡ true) × (new ≡ offer envelope old)
Offers envelope old (Err Spent) new = (has_room envelope old ≡ false) × (new ≡ old)
Offers envelope old (Err Memory) new = new ≡ old
