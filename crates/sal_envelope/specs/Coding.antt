-- Laws of envelopes on bytes.
use Rattle.std.specs.Prelude.{◌≡◌, ℕ, ◌^◌, ◌<◌, nat_lt, Bool, true, false, ◌&&◌, List, ◌∷◌, ◌++◌, length, take, IsTrue, Option, Some, None, Ok, Err}
use Rattle.std.specs.List.{list_all}
use Rattle.sal_value.specs.declared.name.Ual.{Ual}
use Rattle.sal_value.specs.declared.value.DecodeFault.TheVariants.{Cut, Bad}
use Rattle.sal_value.specs.Coding.{name_in_range, in_range, IsBytes}
use Rattle.sal_mail.specs.declared.message.Piece.{Piece}
use Rattle.sal_mail.specs.declared.message.Piece.TheVariants.{Known, Token}
use Rattle.sal_mail.specs.declared.message.Target.{Target}
use Rattle.sal_mail.specs.declared.message.Target.TheVariants as target
use Rattle.sal_mail.specs.declared.message.Reply.{Reply}
use Rattle.sal_mail.specs.declared.message.Reply.TheVariants.{Nobody, Tok, Place, Outside}
use Rattle.sal_mail.specs.declared.message.Message.{Message}
use Rattle.sal_mail.specs.declared.envelope.Envelope.{Envelope}
use Rattle.sal_mail.specs.declared.envelope.Envelope.TheVariants as envelope
use Rattle.sal_envelope.specs.Spelling.{envelope_spelling, envelope_is_spelled}
use Rattle.sal_envelope.specs.Decoding.{decoded_envelope}

-- ---- the envelopes that the program's types hold: numbers are in their types' ranges

abbrev pub is_u16 : ℕ → Bool
is_u16 n = nat_lt n (2 ^ 16)

abbrev pub is_u32 : ℕ → Bool
is_u32 n = nat_lt n (2 ^ 32)

abbrev pub is_u64 : ℕ → Bool
is_u64 n = nat_lt n (2 ^ 64)

abbrev pub target_in_range : Target → Bool
target_in_range (target.Actor n) = name_in_range n
target_in_range target.Output = true

abbrev pub reply_in_range : Reply → Bool
reply_in_range Nobody = true
reply_in_range (Tok maker number) = name_in_range maker && is_u64 number
reply_in_range (Place maker join at) = name_in_range maker && (is_u64 join && is_u32 at)
reply_in_range (Outside number) = is_u64 number

abbrev pub piece_in_range : Piece → Bool
piece_in_range (Known v) = in_range v
piece_in_range (Token number) = is_u64 number

abbrev pub message_in_range : Message → Bool
message_in_range m =
    name_in_range m.maker && (is_u64 m.serial && (target_in_range m.target && (is_u16 m.behavior
    && (is_u16 m.handler && (list_all piece_in_range m.args && reply_in_range m.reply)))))

abbrev pub found_in_range : Option (Ual × ℕ) → Bool
found_in_range None = true
found_in_range (Some found) = is_u64 found.1

abbrev pub envelope_in_range : Envelope → Bool
envelope_in_range (envelope.Call hops m) = is_u32 hops && message_in_range m
envelope_in_range (envelope.Reply hops r v) = is_u32 hops && (reply_in_range r && in_range v)
envelope_in_range (envelope.Create a) = is_u16 a.behavior && list_all in_range a.fields
envelope_in_range (envelope.Move packed) = true
envelope_in_range (envelope.Put maker serial n place) = name_in_range maker && is_u64 serial
envelope_in_range (envelope.PutReply maker serial bound) = name_in_range maker && is_u64 serial
envelope_in_range (envelope.Get n) = true
envelope_in_range (envelope.GetReply n found) = found_in_range found
envelope_in_range (envelope.Update n place moves) = is_u64 moves

-- ---- the laws

-- What is spelled is decoded.
abbrev pub SpelledEnvelopesAreDecoded : Type 0
SpelledEnvelopesAreDecoded =
    (e : Envelope) → IsTrue (envelope_in_range e) → IsTrue (envelope_is_spelled e)
    → decoded_envelope (envelope_spelling e) ≡ Ok e

-- What is decoded has a spelling, and it is the bytes.
abbrev pub DecodedEnvelopesAreSpelled : Type 0
DecodedEnvelopesAreSpelled =
    (bytes : List ℕ) (e : Envelope) → IsBytes bytes → decoded_envelope bytes ≡ Ok e
    → IsTrue (envelope_is_spelled e) × (bytes ≡ envelope_spelling e)

-- an envelope that ends with its spelling: any but a packed actor, which takes in all that follows
abbrev pub is_delimited : Envelope → Bool
is_delimited (envelope.Move packed) = false
is_delimited e = envelope_in_range e && envelope_is_spelled e

-- What follows such a spelling is bad at its place, and it is cut wherever it ends too early. A field that is
-- wrong stays so, whatever follows.
pub record EnvelopesAreDelimited : Type 0 where
  pub longer : (e : Envelope) (b : ℕ) (rest : List ℕ) → IsTrue (is_delimited e)
      → decoded_envelope (envelope_spelling e ++ b ∷ rest) ≡ Err (Bad (length (envelope_spelling e)))
  pub shorter : (e : Envelope) (size : ℕ) → IsTrue (is_delimited e) → size < length (envelope_spelling e)
      → decoded_envelope (take size (envelope_spelling e)) ≡ Err Cut
  pub wrong : (bytes more : List ℕ) (place : ℕ) → decoded_envelope bytes ≡ Err (Bad place)
      → decoded_envelope (bytes ++ more) ≡ Err (Bad place)
