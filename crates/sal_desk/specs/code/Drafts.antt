-- The desk that a theatre and a draft of changes stand for.
use Rattle.std.specs.Prelude.{◌≡◌, ℕ, Bool, true, false, List, [], ◌∷◌, ◌++◌, filter, remove, Option, Some, None}
use Rattle.std.specs.List.{list_any}
use Rattle.sal_value.specs.declared.name.Name.{Name}
use Rattle.sal_value.specs.Table.{Table, key_eq, write}
use Rattle.sal_mail.specs.declared.message.Message.{Message}
use Rattle.sal_mail.specs.Message.{is_not_for}
use Rattle.sal_source.specs.Keys.{name_key}
use Rattle.sal_carriage.specs.Link.{Link}
use Rattle.sal_node.specs.declared.parcel.Parcel.{Parcel}
use Rattle.sal_node.specs.Halves.{CanCompleteFrom, complete_from}
use Rattle.sal_node.specs.Links.{offer_all}
use Rattle.sal_entries.specs.Entries.{overlaid}
use Rattle.sal_queues.specs.Queues.{joined}
use Rattle.sal_routing.specs.declared.item.Item.{Item}
use Rattle.sal_routing.specs.declared.told.Told.{Told}
use Rattle.sal_routing.specs.State.{Theatre, Desk}
use Rattle.sal_routing.specs.Turns.{is_not_reached}
use Rattle.sal_desk.specs.declared.draft.Draft.{Draft}

-- without the message at this place, if one is taken
abbrev pub without_taken : Option ℕ → List Message → List Message
without_taken None ready = ready
without_taken (Some i) ready = remove ready i

-- without the calls of those that left
unfoldable pub without_calls : List Name → List Message → List Message
without_calls [] ready = ready
without_calls (n ∷ ns) ready = without_calls ns (filter (is_not_for n) ready)

-- without those whose moments are reached
abbrev pub without_reached : Option ℕ → List (ℕ × Message) → List (ℕ × Message)
without_reached None delayed = delayed
without_reached (Some now) delayed = filter (is_not_reached now) delayed

-- the name is one of these
abbrev pub is_among : Name → List Name → Bool
is_among n names = list_any (λ m. key_eq (name_key m) (name_key n)) names

-- without what was held for these names
unfoldable pub without_held : List Name → Table (List Item) → Table (List Item)
without_held [] held = held
without_held (n ∷ ns) held = without_held ns (write held (name_key n) None)

-- with the envelope taken that begins the turn, if one does
abbrev pub links_after : Option (ℕ × ℕ) → List Link → List Link
links_after None links = links
links_after (Some x) links = complete_from x.0 x.1 links

-- it can be taken
abbrev pub CanFinish : Option (ℕ × ℕ) → List Link → Type 0
CanFinish None links = Unit {0}
CanFinish (Some x) links = CanCompleteFrom x.0 x.1 links

-- the theatre with this clock and this next number, without the message at this place and without those that are reached,
-- and with the envelope taken
abbrev pub theatre_at : ℕ → ℕ → Option ℕ → Option ℕ → Option (ℕ × ℕ) → Theatre → Theatre
theatre_at clock next_anon taken moment arrived t = record t {
  ready = without_taken taken t.ready;
  delayed = without_reached moment t.delayed;
  links = links_after arrived t.links;
  clock = clock;
  next_anon = next_anon;
}

abbrev pub theatre_with : Theatre → Draft → Theatre
theatre_with t d = record t {
  residents = overlaid d.residents t.residents;
  ready = without_calls d.left (without_taken d.taken t.ready) ++ d.ready;
  delayed = without_reached d.reached t.delayed ++ d.delayed;
  held = joined d.held (without_held d.released t.held);
  pending = overlaid d.pending t.pending;
  places = overlaid d.places t.places;
  questions = overlaid d.questions t.questions;
  links = links_after d.arrived t.links;
  clock = d.clock;
  next_anon = d.next_anon;
}

abbrev pub desk_with : Theatre → Draft → Desk
desk_with t d = record { theatre = theatre_with t d; work = d.work.items; sent = d.sent; told = d.told }

-- All is offered, or a link is spent and nothing is.
abbrev pub OffersIf : Bool → List Parcel → List Link → List Link → Type 0
OffersIf true parcels old new = offer_all parcels old ≡ Some new
OffersIf false parcels old new = (offer_all parcels old ≡ None) × (new ≡ old)

-- The turn's changes are made, what it sends is offered and what it tells is told; or a link is spent and nothing is
-- done.
abbrev pub CommitsTo : Option (List Link) → Theatre → Desk → Option Told → Theatre → Type 0
CommitsTo None old d told new = (told ≡ None) × (new ≡ old)
CommitsTo (Some links) old d told new = (told ≡ Some d.told) × (new ≡ record d.theatre { links = links })

abbrev pub Commits : Theatre → Desk → Option Told → Theatre → Type 0
Commits old d told new = CommitsTo (offer_all d.sent d.theatre.links) old d told new
