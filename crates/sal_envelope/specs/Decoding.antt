-- Reading envelopes from bytes, field by field. Each tag, kind, number, count, boolean, length and text is a
-- field. The first that the bytes don't hold whole is cut, and the first that is whole and wrong is bad, by how
-- many bytes are left where it begins; so what stands before is good. At the end that becomes its place.
use Rattle.std.specs.Prelude.{ℕ, zero, suc, ◌-◌, ◌==◌, nat_lt, Bool, true, false, if◌then◌else◌, List, [], ◌∷◌, length, map, take, drop, Option, Some, None, Result, Ok, Err}
use Rattle.std.specs.Int.{Width, w16, w32, w64, byte_len, from_be_bytes}
use Rattle.std.specs.Str.{bytes_eq}
use Rattle.sal_value.specs.declared.name.Name.{Name}
use Rattle.sal_value.specs.declared.name.Name.TheVariants as name
use Rattle.sal_value.specs.declared.name.Uan.{Uan}
use Rattle.sal_value.specs.declared.name.Ual.{Ual}
use Rattle.sal_value.specs.declared.value.Value.{Value}
use Rattle.sal_value.specs.declared.value.DecodeFault.{DecodeFault}
use Rattle.sal_value.specs.declared.value.DecodeFault.TheVariants as fault
use Rattle.sal_value.specs.Names.{ual_text, ual_of}
use Rattle.sal_value.specs.Decoding.{decoded_name, decoded_value}
use Rattle.sal_mail.specs.declared.message.Piece.TheVariants.{Known}
use Rattle.sal_mail.specs.declared.message.Target.TheVariants as target
use Rattle.sal_mail.specs.declared.message.Reply.{Reply}
use Rattle.sal_mail.specs.declared.message.Reply.TheVariants.{Nobody, Tok, Place, Outside}
use Rattle.sal_mail.specs.declared.message.Message.{Message}
use Rattle.sal_mail.specs.declared.effects.Actor.{Actor}
use Rattle.sal_mail.specs.declared.envelope.Envelope.{Envelope}
use Rattle.sal_mail.specs.declared.envelope.Envelope.TheVariants as envelope
use Rattle.sal_envelope.specs.declared.fault.Fault.{Fault}
use Rattle.sal_envelope.specs.declared.fault.Fault.TheVariants.{Cut, Bad, Memory}

-- What is read at the front of some bytes, and the bytes after it.
abbrev pub Reading : Type 0 → Type 0
Reading A = Result (A × List ℕ) Fault

infixl 10 ◌>>=◌
abbrev pub ◌>>=◌ : {A B : Type 0} → Reading A → (A × List ℕ → Reading B) → Reading B
(Ok x) >>= f = f x
(Err e) >>= f = Err e

-- the field with which these bytes begin is wrong
abbrev pub wrong : {A : Type 0} → List ℕ → Reading A
wrong field = Err (Bad (length field))

-- ---- fields

unfoldable pub bytes_at : ℕ → List ℕ → Reading (List ℕ)
bytes_at n bytes = if nat_lt (length bytes) n then Err Cut else Ok (take n bytes, drop n bytes)

abbrev pub byte_at : List ℕ → Reading ℕ
byte_at [] = Err Cut
byte_at (b ∷ rest) = Ok (b, rest)

unfoldable pub number_at : Width → List ℕ → Reading ℕ
number_at w bytes = do
  n ← bytes_at (byte_len w) bytes
  Ok (from_be_bytes w n.0, n.1)

-- 0 or 1
unfoldable pub bool_at : List ℕ → Reading Bool
bool_at bytes = do
  b ← byte_at bytes
  if b.0 == 0 then Ok (false, b.1) else if b.0 == 1 then Ok (true, b.1) else wrong bytes

-- a fault by how many bytes are left where its field begins
abbrev pub fault_before : DecodeFault → ℕ → Fault
fault_before fault.Cut size = Cut
fault_before (fault.Bad place) size = Bad (size - place)
fault_before fault.Memory size = Memory

-- what a name or value at the front of these bytes leaves
abbrev pub left_after : {A : Type 0} → List ℕ → Result (A × ℕ) DecodeFault → Reading A
left_after bytes (Ok x) = Ok (x.0, drop x.1 bytes)
left_after bytes (Err f) = Err (fault_before f (length bytes))

unfoldable pub name_at : List ℕ → Reading Name
name_at bytes = left_after bytes (decoded_name bytes)

unfoldable pub value_at : List ℕ → Reading Value
value_at bytes = left_after bytes (decoded_value bytes)

-- a universal name; another is wrong
abbrev pub universal_or_wrong : List ℕ → List ℕ → Name → Reading Uan
universal_or_wrong bytes rest (name.Uan u) = Ok (u, rest)
universal_or_wrong bytes rest (name.Anon theatre number) = wrong bytes
universal_or_wrong bytes rest (name.Outside number) = wrong bytes

-- a universal name, which its tag tells
unfoldable pub uan_at : List ℕ → Reading Uan
uan_at bytes = do
  tag ← byte_at bytes
  if tag.0 == 1 then (name_at bytes >>= λ n. universal_or_wrong bytes n.1 n.0) else wrong bytes

-- the locator, where this is its canonical text
abbrev pub if_canonical : List ℕ → Option Ual → Option Ual
if_canonical text None = None
if_canonical text (Some place) = if bytes_eq (ual_text place) text then Some place else None

unfoldable pub canonical_ual : List ℕ → Option Ual
canonical_ual text = if_canonical text (ual_of text)

-- this locator, or the text is wrong
abbrev pub locator_or_wrong : List ℕ → List ℕ → Option Ual → Reading Ual
locator_or_wrong text rest None = wrong text
locator_or_wrong text rest (Some place) = Ok (place, rest)

-- a length, and so many bytes of a canonical text
unfoldable pub locator_at : List ℕ → Reading Ual
locator_at bytes = do
  n ← number_at w16 bytes
  t ← bytes_at n.0 n.1
  locator_or_wrong n.1 t.1 (canonical_ual t.0)

-- so many values, one after the other
abbrev pub many_at : ℕ → List ℕ → Reading (List Value)
many_at zero bytes = Ok ([], bytes)
many_at (suc n) bytes = do
  first ← value_at bytes
  others ← many_at n first.1
  Ok (first.0 ∷ others.0, others.1)

-- a count in one byte, of at most so many, and so many values
unfoldable pub values_at : ℕ → List ℕ → Reading (List Value)
values_at most bytes = do
  n ← byte_at bytes
  if nat_lt most n.0 then wrong bytes else many_at n.0 n.1

-- a maker and a number
unfoldable pub made_at : List ℕ → Reading (Name × ℕ)
made_at bytes = do
  maker ← name_at bytes
  serial ← number_at w64 maker.1
  Ok ((maker.0, serial.0), serial.1)

unfoldable pub place_at : List ℕ → Reading Reply
place_at bytes = do
  join ← made_at bytes
  at ← number_at w32 join.1
  Ok (Place join.0.0 join.0.1 at.0, at.1)

unfoldable pub token_at : List ℕ → Reading Reply
token_at bytes = do
  token ← made_at bytes
  Ok (Tok token.0.0 token.0.1, token.1)

-- to a token or a place; these bytes, with the kind, are wrong where it is another
abbrev pub inner_by : List ℕ → ℕ → List ℕ → Reading Reply
inner_by bytes kind rest =
    if kind == 1 then token_at rest else if kind == 2 then place_at rest else wrong bytes

unfoldable pub inner_at : List ℕ → Reading Reply
inner_at bytes = do
  kind ← byte_at bytes
  inner_by bytes kind.0 kind.1

-- of any kind
unfoldable pub reply_at : List ℕ → Reading Reply
reply_at bytes = do
  kind ← byte_at bytes
  if kind.0 == 0 then Ok (Nobody, kind.1)
      else if kind.0 == 3 then (number_at w64 kind.1 >>= λ n. Ok (Outside n.0, n.1))
      else inner_by bytes kind.0 kind.1

-- ---- calls

-- the number of a behaviour and that of a handler
unfoldable pub handler_at : List ℕ → Reading (ℕ × ℕ)
handler_at bytes = do
  behavior ← number_at w16 bytes
  handler ← number_at w16 behavior.1
  Ok ((behavior.0, handler.0), handler.1)

-- a call that waits for nothing and has no delay
abbrev pub call_of : Name × ℕ → Name → ℕ × ℕ → List Value → Reply → Message
call_of made callee code values reply = record {
  maker = made.0;
  serial = made.1;
  target = target.Actor callee;
  behavior = code.0;
  handler = code.1;
  args = map Known values;
  after = [];
  delay = 0;
  reply = reply;
}

-- a call, of at most 16 values
unfoldable pub call_at : List ℕ → Reading Message
call_at bytes = do
  made ← made_at bytes
  callee ← name_at made.1
  code ← handler_at callee.1
  values ← values_at 16 code.1
  reply ← reply_at values.1
  Ok (call_of made.0 callee.0 code.0 values.0 reply.0, reply.1)

-- ---- envelopes, after their tags

unfoldable pub call_envelope_at : List ℕ → Reading Envelope
call_envelope_at bytes = do
  hops ← number_at w32 bytes
  m ← call_at hops.1
  Ok (envelope.Call hops.0 m.0, m.1)

unfoldable pub reply_envelope_at : List ℕ → Reading Envelope
reply_envelope_at bytes = do
  hops ← number_at w32 bytes
  r ← inner_at hops.1
  v ← value_at r.1
  Ok (envelope.Reply hops.0 r.0 v.0, v.1)

-- an actor under a universal name
abbrev pub universal_actor : Uan → ℕ → List Value → Actor
universal_actor n behavior fields =
    record { name = name.Uan n; behavior = behavior; fields = fields }

unfoldable pub create_at : List ℕ → Reading Envelope
create_at bytes = do
  n ← uan_at bytes
  behavior ← number_at w16 n.1
  fields ← values_at 255 behavior.1
  Ok (envelope.Create (universal_actor n.0 behavior.0 fields.0), fields.1)

unfoldable pub put_at : List ℕ → Reading Envelope
put_at bytes = do
  made ← made_at bytes
  n ← uan_at made.1
  place ← locator_at n.1
  Ok (envelope.Put made.0.0 made.0.1 n.0 place.0, place.1)

-- 0 says that the name was bound
unfoldable pub put_reply_at : List ℕ → Reading Envelope
put_reply_at bytes = do
  made ← made_at bytes
  taken ← bool_at made.1
  Ok (envelope.PutReply made.0.0 made.0.1 (if taken.0 then false else true), taken.1)

unfoldable pub get_at : List ℕ → Reading Envelope
get_at bytes = do
  n ← uan_at bytes
  Ok (envelope.Get n.0, n.1)

-- a locator and a number of moves
unfoldable pub moved_at : List ℕ → Reading (Ual × ℕ)
moved_at bytes = do
  place ← locator_at bytes
  moves ← number_at w64 place.1
  Ok ((place.0, moves.0), moves.1)

unfoldable pub found_at : List ℕ → Reading (Option (Ual × ℕ))
found_at bytes = do
  is_found ← bool_at bytes
  if is_found.0 then (moved_at is_found.1 >>= λ m. Ok (Some m.0, m.1)) else Ok (None, is_found.1)

unfoldable pub get_reply_at : List ℕ → Reading Envelope
get_reply_at bytes = do
  n ← uan_at bytes
  found ← found_at n.1
  Ok (envelope.GetReply n.0 found.0, found.1)

unfoldable pub update_at : List ℕ → Reading Envelope
update_at bytes = do
  n ← uan_at bytes
  m ← moved_at n.1
  Ok (envelope.Update n.0 m.0.0 m.0.1, m.1)

-- a packed actor, which runs to the end
abbrev pub move_at : List ℕ → Reading Envelope
move_at bytes = Ok (envelope.Move bytes, [])

-- an envelope by its tag, from 1 to 9
unfoldable pub envelope_at : List ℕ → Reading Envelope
envelope_at bytes = do
  tag ← byte_at bytes
  if tag.0 == 1 then call_envelope_at tag.1
      else if tag.0 == 2 then reply_envelope_at tag.1
      else if tag.0 == 3 then create_at tag.1
      else if tag.0 == 4 then move_at tag.1
      else if tag.0 == 5 then put_at tag.1
      else if tag.0 == 6 then put_reply_at tag.1
      else if tag.0 == 7 then get_at tag.1
      else if tag.0 == 8 then get_reply_at tag.1
      else if tag.0 == 9 then update_at tag.1
      else wrong bytes

-- what was read, where nothing is left; what is left is wrong
abbrev pub if_none_left : {A : Type 0} → A → List ℕ → Reading A
if_none_left x [] = Ok (x, [])
if_none_left x (b ∷ rest) = wrong (b ∷ rest)

unfoldable pub whole_at : List ℕ → Reading Envelope
whole_at bytes = do
  e ← envelope_at bytes
  if_none_left e.0 e.1

-- a fault with the place of the field that is wrong
abbrev pub fault_with_offset : Fault → ℕ → DecodeFault
fault_with_offset Cut size = fault.Cut
fault_with_offset (Bad left) size = fault.Bad (size - left)
fault_with_offset Memory size = fault.Memory

abbrev pub with_offset : {A : Type 0} → List ℕ → Reading A → Result A DecodeFault
with_offset bytes (Ok x) = Ok x.0
with_offset bytes (Err f) = Err (fault_with_offset f (length bytes))

-- the envelope that the bytes spell, or the fault with its place
unfoldable pub decoded_envelope : List ℕ → Result Envelope DecodeFault
decoded_envelope bytes = with_offset bytes (whole_at bytes)
