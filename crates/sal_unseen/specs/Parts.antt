-- What arrives, comes, goes, becomes known or is due, and is routed, isn't seen.
use Rattle.std.specs.Prelude.{◌≡◌, ℕ, true, List, ◌∷◌, ◌++◌, Some, Result, Ok, Err}
use Rattle.std.specs.FinMap as fm
use Rattle.sal_value.specs.declared.name.Name.{Name}
use Rattle.sal_value.specs.declared.name.Uan.{Uan}
use Rattle.sal_value.specs.declared.value.DecodeFault.{DecodeFault}
use Rattle.sal_mail.specs.declared.envelope.Envelope.{Envelope}
use Rattle.sal_mail.specs.declared.envelope.Envelope.TheVariants as envelope
use Rattle.sal_handler.specs.Calls.{Meaning}
use Rattle.sal_source.specs.Keys.{name_key, made_key}
use Rattle.sal_source.specs.Step.{bound_actor}
use Rattle.sal_source.specs.Table.{HasSameItems}
use Rattle.sal_book.specs.Book.{new_book}
use Rattle.sal_resident.specs.declared.resident.Resident.{Resident}
use Rattle.sal_resident.specs.Coding.{resident_in_range}
use Rattle.sal_resident.specs.Unpacking.{unpacked_actor}
use Rattle.sal_pieces.specs.Pieces.{Piece, Body}
use Rattle.sal_routing.specs.declared.pending.Pending.{Pending}
use Rattle.sal_routing.specs.State.{Theatre, Desk, newcomer}
use Rattle.sal_routing.specs.Fits.{fits_arrival, fits_move}
use Rattle.sal_routing.specs.Routing.{route}
use Rattle.sal_routing.specs.Arrivals.{arrive, learn, leaving, move_to}
use Rattle.sal_routing.specs.Turns.{place_new, drop_pending, receive, release_delayed, ask_all}
use Rattle.sal_world.specs.Pieces.{resident_pieces, pending_piece, envelope_pieces}
use Rattle.sal_unseen.specs.Desks.{desk_pieces, IsSentWhole}
use Rattle.sal_unseen.specs.Unseen.{IsInOrder, StaysInOrder}

-- ---- actors

-- An actor comes from where it was, and what was held for it is routed.
abbrev pub ArrivalsAreUnseen : Type 0
ArrivalsAreUnseen =
    (p : Meaning) (r : Resident) (d : Desk) (rest : List Piece) → IsInOrder p d (resident_pieces r ++ rest)
    → StaysInOrder p d (resident_pieces r ++ rest) (arrive p r d) rest

-- An actor moves, where it does.
abbrev pub MigrationsAreUnseen : Type 0
MigrationsAreUnseen =
    (p : Meaning) (n : Name) (to : ℕ) (d : Desk) (rest : List Piece)
    → ((r : Resident) → fm.get d.theatre.residents (name_key n) ≡ Some r → resident_in_range (leaving r d.theatre) ≡ true)
    → IsInOrder p d rest → StaysInOrder p d rest (move_to n to d) rest

-- A creation that waits no more was one piece.
abbrev pub PendingAreDropped : Type 0
PendingAreDropped =
    (maker : Name) (serial : ℕ) (x : Pending) (d : Desk) → fm.get d.theatre.pending (made_key maker serial) ≡ Some x
    → HasSameItems (desk_pieces d) (pending_piece x ∷ desk_pieces (drop_pending maker serial d))

-- The actor of a creation that was bound stands here, or goes to its theatre.
abbrev pub NewActorsArePlacedUnseen : Type 0
NewActorsArePlacedUnseen =
    (p : Meaning) (x : Pending) (d : Desk) (rest : List Piece) → IsSentWhole (envelope.Create (bound_actor x.creation))
    → IsInOrder p d (Body (bound_actor x.creation, 0) new_book ∷ rest)
    → StaysInOrder p d (Body (bound_actor x.creation, 0) new_book ∷ rest) (place_new p x d) rest

-- ---- names, and what is due

-- A place becomes known, and what was held for the name is routed.
abbrev pub PlacesAreUnseen : Type 0
PlacesAreUnseen =
    (p : Meaning) (u : Uan) (theatre moves : ℕ) (d : Desk) (rest : List Piece) → IsInOrder p d rest
    → StaysInOrder p d rest (learn p u theatre moves d) rest

-- What was delayed is routed, and names are asked for again.
abbrev pub DueItemsAreUnseen : Type 0
DueItemsAreUnseen =
    (p : Meaning) (us : List Uan) (d : Desk) (rest : List Piece) → IsInOrder p d rest
    → StaysInOrder p d rest (ask_all us (route p (release_delayed d))) rest

-- ---- letters

-- it is unpacked, and fits
abbrev pub MoveFits : Meaning → Theatre → Result Resident DecodeFault → Type 0
MoveFits p t (Ok r) = fits_move p t r ≡ true
MoveFits p t (Err fault) = ⊥

-- The envelope fits the theatre. That of a question for a name never comes to one; an answer to a creation is seen.
abbrev pub FitsHere : Meaning → Theatre → Envelope → Type 0
FitsHere p t (envelope.Call hops m) = Unit {0}
FitsHere p t (envelope.Reply hops r v) = Unit {0}
FitsHere p t (envelope.Create a) = fits_arrival p t (newcomer a) ≡ true
FitsHere p t (envelope.Move packed) = MoveFits p t (unpacked_actor packed)
FitsHere p t (envelope.Put maker serial n place) = ⊥
FitsHere p t (envelope.PutReply maker serial bound) = ⊥
FitsHere p t (envelope.Get n) = Unit {0}
FitsHere p t (envelope.GetReply n found) = Unit {0}
FitsHere p t (envelope.Update n place moves) = Unit {0}

-- An envelope that fits arrives: what it was on its way is routed, or stands here.
abbrev pub LettersAreUnseen : Type 0
LettersAreUnseen =
    (p : Meaning) (e : Envelope) (d : Desk) (rest : List Piece) → FitsHere p d.theatre e → IsInOrder p d (envelope_pieces e ++ rest)
    → StaysInOrder p d (envelope_pieces e ++ rest) (receive p e d) rest
