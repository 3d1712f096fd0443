-- What only moves things keeps the pieces, in another order.
use Rattle.std.specs.Prelude.{◌≡◌, ℕ, true, false, List, [], ◌∷◌, ◌++◌, Some, Ok}
use Rattle.std.specs.FinMap as fm
use Rattle.sal_value.specs.declared.name.Name.{Name}
use Rattle.sal_value.specs.declared.name.Uan.{Uan}
use Rattle.sal_value.specs.declared.value.Value.{Value}
use Rattle.sal_mail.specs.declared.message.Reply.{Reply}
use Rattle.sal_mail.specs.declared.message.Target.{Target}
use Rattle.sal_mail.specs.declared.message.Target.TheVariants as target
use Rattle.sal_mail.specs.declared.message.Message.{Message}
use Rattle.sal_mail.specs.declared.effects.Actor.{Actor}
use Rattle.sal_mail.specs.declared.envelope.Envelope.TheVariants as envelope
use Rattle.sal_mail.specs.Message.{without_delay}
use Rattle.sal_handler.specs.Calls.{Meaning}
use Rattle.sal_source.specs.Table.{HasSameItems}
use Rattle.sal_source.specs.Keys.{name_key}
use Rattle.sal_resident.specs.declared.resident.Resident.{Resident}
use Rattle.sal_resident.specs.Coding.{resident_in_range}
use Rattle.sal_resident.specs.Unpacking.{unpacked_actor}
use Rattle.sal_spelled.specs.Sending.{may_move}
use Rattle.sal_pieces.specs.Pieces.{loose_call}
use Rattle.sal_routing.specs.declared.item.Item.{Item}
use Rattle.sal_routing.specs.declared.item.Item.TheVariants.{Call, Answer}
use Rattle.sal_routing.specs.State.{Desk, envelope_of, raised, newcomer, with_work}
use Rattle.sal_routing.specs.Fits.{fits_call, fits_print, is_here}
use Rattle.sal_routing.specs.Routing.{ask, hold, send_on, route_call, release_held}
use Rattle.sal_routing.specs.Arrivals.{stand, leaving, depart_as}
use Rattle.sal_routing.specs.Turns.{release_delayed}
use Rattle.sal_world.specs.Pieces.{item_piece, resident_pieces, envelope_pieces}
use Rattle.sal_unseen.specs.Desks.{desk_pieces, IsSentWhole}

-- ---- calls

-- A message to the output can be printed. One to an actor fits the program and, once it has no delay, is sent whole.
abbrev pub FitsThere : Meaning → Message → Target → Type 0
FitsThere p m target.Output = fits_print m ≡ true
FitsThere p m (target.Actor n) = (fits_call p m ≡ true) × ((hops : ℕ) → IsSentWhole (envelope.Call hops (without_delay m)))

-- A call that fits is there as before once it is routed, wherever it went.
abbrev pub CallsAreOnlyMoved : Type 0
CallsAreOnlyMoved =
    (p : Meaning) (hops : ℕ) (m : Message) (d : Desk) → FitsThere p m m.target
    → HasSameItems (desk_pieces (route_call p hops m d)) (loose_call m ∷ desk_pieces d)

-- ---- what is held

-- What is held or sent on is there as before, and so is what was held or delayed and is taken up again.
pub record ItemsAreOnlyMoved : Type 0 where
  pub asked : (service : ℕ) (u : Uan) (d : Desk) → HasSameItems (desk_pieces (ask service u d)) (desk_pieces d)
  pub held : (n : Name) (i : Item) (d : Desk) → HasSameItems (desk_pieces (hold n i d)) (item_piece i ∷ desk_pieces d)
  pub sent : (n : Name) (i : Item) (d : Desk) → IsSentWhole (envelope_of i)
      → HasSameItems (desk_pieces (send_on n i d)) (item_piece i ∷ desk_pieces d)
  pub released : (n : Name) (d : Desk) → HasSameItems (desk_pieces (release_held n d)) (desk_pieces d)
  pub due : (d : Desk) → HasSameItems (desk_pieces (release_delayed d)) (desk_pieces d)

-- ---- actors

-- An actor that wasn't here comes with all its pieces, and what was held for it is taken up.
abbrev pub ActorsComeWhole : Type 0
ActorsComeWhole =
    (r : Resident) (d : Desk) → is_here r.name d.theatre ≡ false
    → HasSameItems (desk_pieces (release_held r.name (record d { theatre = stand r d.theatre }))) (resident_pieces r ++ desk_pieces d)

-- An actor that may move leaves with all its pieces.
abbrev pub ActorsLeaveWhole : Type 0
ActorsLeaveWhole =
    (u : Uan) (r : Resident) (to : ℕ) (d : Desk) → fm.get d.theatre.residents (name_key r.name) ≡ Some r
    → may_move (leaving r d.theatre) ≡ true → resident_in_range (leaving r d.theatre) ≡ true
    → HasSameItems (desk_pieces (depart_as u r to d)) (desk_pieces d)

-- ---- letters

-- What arrives is what it was in transit: the pieces of the envelope are those of the list, or of the actor.
pub record LettersBecomeWork : Type 0 where
  pub call : (hops : ℕ) (m : Message) (d : Desk)
      → HasSameItems (desk_pieces (with_work (Call (raised hops) m ∷ []) d)) (envelope_pieces (envelope.Call hops m) ++ desk_pieces d)
  pub reply : (hops : ℕ) (r : Reply) (v : Value) (d : Desk)
      → HasSameItems (desk_pieces (with_work (Answer (raised hops) r v ∷ []) d)) (envelope_pieces (envelope.Reply hops r v) ++ desk_pieces d)
  pub create : (a : Actor) → resident_pieces (newcomer a) ≡ envelope_pieces (envelope.Create a)
  pub move : (packed : List ℕ) (r : Resident) → unpacked_actor packed ≡ Ok r
      → resident_pieces r ≡ envelope_pieces (envelope.Move packed)
