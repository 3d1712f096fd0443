-- The pieces of which a world consists, wherever they are. A turn that only moves things keeps each sum over them.
use Rattle.std.specs.Prelude.{Bool, true, List, [], ◌∷◌, ◌++◌, map, filter, flat_map, Result, Ok, Err}
use Rattle.std.specs.FinMap as fm
use Rattle.sal_value.specs.declared.value.DecodeFault.{DecodeFault}
use Rattle.sal_value.specs.Table.{Table}
use Rattle.sal_mail.specs.declared.envelope.Envelope.{Envelope}
use Rattle.sal_mail.specs.declared.envelope.Envelope.TheVariants as envelope
use Rattle.sal_source.specs.Keys.{made_key}
use Rattle.sal_book.specs.Book.{new_book}
use Rattle.sal_pieces.specs.Pieces.{Piece, Body, OwedReply, WaitingCreation, Put, Decision, loose_call}
use Rattle.sal_resident.specs.declared.resident.Resident.{Resident}
use Rattle.sal_resident.specs.Unpacking.{unpacked_actor}
use Rattle.sal_routing.specs.declared.item.Item.{Item}
use Rattle.sal_routing.specs.declared.item.Item.TheVariants.{Call, Answer}
use Rattle.sal_routing.specs.declared.pending.Pending.{Pending}
use Rattle.sal_routing.specs.State.{Theatre, actor_of}
use Rattle.sal_world.specs.World.{World, Letter, letters}

-- ---- of a theatre

abbrev pub item_piece : Item → Piece
item_piece (Call hops m) = loose_call m
item_piece (Answer hops r v) = OwedReply (r, v)

-- a resident's number of moves and its mailbox are no part of it
abbrev pub body_of : Resident → Piece
body_of r = Body (actor_of r, r.serial) r.book

-- an actor, and the calls that it takes along
abbrev pub resident_pieces : Resident → List Piece
resident_pieces r = body_of r ∷ map loose_call r.mailbox

-- where it is to stand is no part of it
abbrev pub pending_piece : Pending → Piece
pending_piece x = WaitingCreation (x.maker, x.creation)

-- all that is held, name after name
abbrev pub held_items : Table (List Item) → List Item
held_items held = flat_map (λ items. items) (fm.values held)

-- what is held and passes the test
abbrev pub held_pieces : (Item → Bool) → Table (List Item) → List Piece
held_pieces keep held = map item_piece (filter keep (held_items held))

unfoldable pub theatre_pieces : (Item → Bool) → Theatre → List Piece
theatre_pieces keep t =
    flat_map resident_pieces (fm.values t.residents) ++ (map loose_call t.ready ++ (map (λ x. loose_call x.1) t.delayed
    ++ (held_pieces keep t.held ++ map pending_piece (fm.values t.pending))))

-- ---- of an envelope

abbrev pub unpacked_pieces : Result Resident DecodeFault → List Piece
unpacked_pieces (Ok r) = resident_pieces r
unpacked_pieces (Err fault) = []

unfoldable pub envelope_pieces : Envelope → List Piece
envelope_pieces (envelope.Call hops m) = loose_call m ∷ []
envelope_pieces (envelope.Reply hops r v) = OwedReply (r, v) ∷ []
envelope_pieces (envelope.Create a) = Body (a, 0) new_book ∷ []
envelope_pieces (envelope.Move packed) = unpacked_pieces (unpacked_actor packed)
envelope_pieces (envelope.Put maker serial u place) = Put (made_key maker serial) u ∷ []
envelope_pieces (envelope.PutReply maker serial bound) = Decision (made_key maker serial) bound ∷ []
envelope_pieces (envelope.Get u) = []
envelope_pieces (envelope.GetReply u found) = []
envelope_pieces (envelope.Update u place moves) = []

abbrev pub letter_pieces : List Letter → List Piece
letter_pieces ls = flat_map (λ l. envelope_pieces l.1) ls

-- ---- of a world

-- of what is held, what passes the test
unfoldable pub pieces : (Item → Bool) → World → List Piece
pieces keep w = flat_map (theatre_pieces keep) w.theatres ++ letter_pieces (letters w)

abbrev pub world_pieces : World → List Piece
world_pieces w = pieces (λ i. true) w
