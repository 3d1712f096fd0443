-- The pieces on which a theatre's turn works: of its list, of its theatre, and of what it sent.
use Rattle.std.specs.Prelude.{◌≡◌, ℕ, Bool, true, ◌&&◌, List, [], ◌++◌, map, flat_map, Result, Ok, Err}
use Rattle.std.specs.List.{list_all}
use Rattle.sal_value.specs.declared.value.DecodeFault.{DecodeFault}
use Rattle.sal_value.specs.Coding.{name_in_range, in_range}
use Rattle.sal_mail.specs.declared.envelope.Envelope.{Envelope}
use Rattle.sal_mail.specs.declared.envelope.Envelope.TheVariants as envelope
use Rattle.sal_source.specs.Table.{HasSameItems}
use Rattle.sal_envelope.specs.Spelling.{envelope_spelling}
use Rattle.sal_envelope.specs.Decoding.{decoded_envelope}
use Rattle.sal_envelope.specs.Coding.{is_u16, is_u64, reply_in_range, message_in_range, found_in_range}
use Rattle.sal_spelled.specs.Sending.{may_be_sent}
use Rattle.sal_node.specs.declared.parcel.Parcel.{Parcel}
use Rattle.sal_pieces.specs.Pieces.{Piece}
use Rattle.sal_routing.specs.State.{Desk, send}
use Rattle.sal_world.specs.Pieces.{item_piece, theatre_pieces, envelope_pieces}

-- of the envelope that was read, if there is one
abbrev pub decoded_pieces : Result Envelope DecodeFault → List Piece
decoded_pieces (Ok e) = envelope_pieces e
decoded_pieces (Err fault) = []

-- what was sent is there as it will be read
abbrev pub sent_pieces : List Parcel → List Piece
sent_pieces parcels = flat_map (λ x. decoded_pieces (decoded_envelope x.bytes)) parcels

abbrev pub desk_pieces : Desk → List Piece
desk_pieces d = map item_piece d.work ++ (theatre_pieces (λ i. true) d.theatre ++ sent_pieces d.sent)

-- ---- sending

-- The envelope may be sent, and what is read of it has its pieces.
pub record IsSentWhole (e : Envelope) : Type 0 where
  pub sent : may_be_sent e ≡ true
  pub read : decoded_pieces (decoded_envelope (envelope_spelling e)) ≡ envelope_pieces e

-- All numbers of which pieces tell are in their types' ranges: they don't tell hops and numbers of moves.
abbrev pub pieces_in_range : Envelope → Bool
pieces_in_range (envelope.Call hops m) = message_in_range m
pieces_in_range (envelope.Reply hops r v) = reply_in_range r && in_range v
pieces_in_range (envelope.Create a) = is_u16 a.behavior && list_all in_range a.fields
pieces_in_range (envelope.Move packed) = true
pieces_in_range (envelope.Put maker serial n place) = name_in_range maker && is_u64 serial
pieces_in_range (envelope.PutReply maker serial bound) = name_in_range maker && is_u64 serial
pieces_in_range (envelope.Get n) = true
pieces_in_range (envelope.GetReply n found) = found_in_range found
pieces_in_range (envelope.Update n place moves) = true

-- What may be sent and is in range is sent whole.
abbrev pub EnvelopesAreSentWhole : Type 0
EnvelopesAreSentWhole = (e : Envelope) → may_be_sent e ≡ true → pieces_in_range e ≡ true → IsSentWhole e

-- Sending adds the envelope's pieces, and no others.
abbrev pub SendingAddsPieces : Type 0
SendingAddsPieces = (node : ℕ) (e : Envelope) (d : Desk) → IsSentWhole e → HasSameItems (desk_pieces (send node e d)) (envelope_pieces e ++ desk_pieces d)
