-- Reading packed actors from bytes, field by field, as envelopes are read.
use Rattle.std.specs.Prelude.{ℕ, zero, suc, nat_lt, Bool, true, if◌then◌else◌, List, [], ◌∷◌, Option, Some, None, Result, Ok}
use Rattle.std.specs.Int.{w16, w32, w64}
use Rattle.sal_value.specs.declared.name.Name.{Name}
use Rattle.sal_value.specs.declared.name.Name.TheVariants as name
use Rattle.sal_value.specs.declared.name.Uan.{Uan}
use Rattle.sal_value.specs.declared.value.Value.{Value}
use Rattle.sal_value.specs.declared.value.DecodeFault.{DecodeFault}
use Rattle.sal_mail.specs.declared.message.Piece.{Piece}
use Rattle.sal_mail.specs.declared.message.Piece.TheVariants.{Known, Token}
use Rattle.sal_mail.specs.declared.message.Target.{Target}
use Rattle.sal_mail.specs.declared.message.Target.TheVariants as target
use Rattle.sal_mail.specs.declared.message.Reply.{Reply}
use Rattle.sal_mail.specs.declared.message.Message.{Message}
use Rattle.sal_mail.specs.declared.message.Join.{Join}
use Rattle.sal_mail.specs.Message.{is_ready, is_full}
use Rattle.sal_envelope.specs.Decoding.{Reading, ◌>>=◌, wrong, byte_at, number_at, bool_at, name_at, uan_at, value_at, values_at, reply_at, handler_at, call_at, if_none_left, with_offset}
use Rattle.sal_book.specs.Book.{Book, new_book}
use Rattle.sal_resident.specs.declared.resident.Resident.{Resident}

-- ---- things one after the other

-- So many things. How one is read may depend on the one before it, by what is kept of that.
abbrev pub each_from : {S A : Type 0} → (A → S) → (S → List ℕ → Reading A) → S → ℕ → List ℕ → Reading (List A)
each_from keep one before zero bytes = Ok ([], bytes)
each_from keep one before (suc n) bytes = do
  first ← one before bytes
  others ← each_from keep one (keep first.0) n first.1
  Ok (first.0 ∷ others.0, others.1)

-- nothing is kept
abbrev pub each_at : {A : Type 0} → (List ℕ → Reading A) → ℕ → List ℕ → Reading (List A)
each_at one = each_from {S = Unit {0}} (λ x. tt) (λ before. one) tt

-- the number of the last one is kept
abbrev pub each_numbered_at : {A : Type 0} → (A → ℕ) → (Option ℕ → List ℕ → Reading A) → ℕ → List ℕ → Reading (List A)
each_numbered_at number one = each_from (λ x. Some (number x)) one None

-- it is above the number before it, if there is one
abbrev pub is_above : Option ℕ → ℕ → Bool
is_above None n = true
is_above (Some before) n = nat_lt before n

-- such a number; another is wrong
unfoldable pub rising_at : Option ℕ → List ℕ → Reading ℕ
rising_at before bytes = do
  n ← number_at w64 bytes
  if is_above before n.0 then Ok (n.0, n.1) else wrong bytes

-- ---- messages that wait

-- a maker, and a number that rises
unfoldable pub made_above_at : Option ℕ → List ℕ → Reading (Name × ℕ)
made_above_at before bytes = do
  maker ← name_at bytes
  serial ← rising_at before maker.1
  Ok ((maker.0, serial.0), serial.1)

unfoldable pub target_at : List ℕ → Reading Target
target_at bytes = do
  is_actor ← bool_at bytes
  if is_actor.0 then (name_at is_actor.1 >>= λ n. Ok (target.Actor n.0, n.1)) else Ok (target.Output, is_actor.1)

unfoldable pub piece_at : List ℕ → Reading Piece
piece_at bytes = do
  is_token ← bool_at bytes
  if is_token.0 then (number_at w64 is_token.1 >>= λ n. Ok (Token n.0, n.1)) else (value_at is_token.1 >>= λ v. Ok (Known v.0, v.1))

-- a count in one byte, and so many arguments
unfoldable pub pieces_at : List ℕ → Reading (List Piece)
pieces_at bytes = do
  n ← byte_at bytes
  each_at piece_at n.0 n.1

-- a count in two bytes, and so many numbers
unfoldable pub numbers_at : List ℕ → Reading (List ℕ)
numbers_at bytes = do
  n ← number_at w16 bytes
  each_at (number_at w64) n.0 n.1

-- a message that waits for something; another is wrong where it begins
abbrev pub if_waiting : List ℕ → Message → List ℕ → Reading Message
if_waiting bytes m rest = if is_ready m then wrong bytes else Ok (m, rest)

-- the message that has these parts
abbrev pub message_of : Name × ℕ → Target → ℕ × ℕ → List Piece → List ℕ → ℕ → Reply → Message
message_of made to code args after delay reply = record {
  maker = made.0;
  serial = made.1;
  target = to;
  behavior = code.0;
  handler = code.1;
  args = args;
  after = after;
  delay = delay;
  reply = reply;
}

unfoldable pub message_at : Option ℕ → List ℕ → Reading Message
message_at before bytes = do
  made ← made_above_at before bytes
  to ← target_at made.1
  code ← handler_at to.1
  args ← pieces_at code.1
  after ← numbers_at args.1
  delay ← number_at w32 after.1
  reply ← reply_at delay.1
  if_waiting bytes (message_of made.0 to.0 code.0 args.0 after.0 delay.0 reply.0) reply.1

-- a count in four bytes, and so many messages, whose numbers rise
unfoldable pub messages_at : List ℕ → Reading (List Message)
messages_at bytes = do
  n ← number_at w32 bytes
  each_numbered_at (λ m. m.serial) message_at n.0 n.1

-- ---- joins

unfoldable pub slot_at : List ℕ → Reading (Option Value)
slot_at bytes = do
  is_filled ← bool_at bytes
  if is_filled.0 then (value_at is_filled.1 >>= λ v. Ok (Some v.0, v.1)) else Ok (None, is_filled.1)

-- a count in four bytes, and so many slots
unfoldable pub slots_at : List ℕ → Reading (List (Option Value))
slots_at bytes = do
  n ← number_at w32 bytes
  each_at slot_at n.0 n.1

-- a join with an empty slot; another is wrong where it begins
abbrev pub if_open : List ℕ → Join → List ℕ → Reading Join
if_open bytes j rest = if is_full j then wrong bytes else Ok (j, rest)

-- the join that has these parts
abbrev pub join_of : ℕ → Bool → List (Option Value) → Reply → Join
join_of number void slots reply = record { number = number; places = slots; void = void; reply = reply }

unfoldable pub join_at : Option ℕ → List ℕ → Reading Join
join_at before bytes = do
  number ← rising_at before bytes
  void ← bool_at number.1
  slots ← slots_at void.1
  reply ← reply_at slots.1
  if_open bytes (join_of number.0 void.0 slots.0 reply.0) reply.1

-- a count in four bytes, and so many joins, whose numbers rise
unfoldable pub joins_at : List ℕ → Reading (List Join)
joins_at bytes = do
  n ← number_at w32 bytes
  each_numbered_at (λ j. j.number) join_at n.0 n.1

-- ---- the actor

-- an actor with nothing in its book and its mailbox
abbrev pub state_of : Uan → ℕ → ℕ → List Value → ℕ → Resident
state_of n moves behavior fields serial = record {
  name = name.Uan n;
  moves = moves;
  behavior = behavior;
  fields = fields;
  serial = serial;
  book = new_book;
  mailbox = [];
}

unfoldable pub state_at : List ℕ → Reading Resident
state_at bytes = do
  n ← uan_at bytes
  moves ← number_at w64 n.1
  behavior ← number_at w16 moves.1
  fields ← values_at 255 behavior.1
  serial ← number_at w64 fields.1
  Ok (state_of n.0 moves.0 behavior.0 fields.0 serial.0, serial.1)

abbrev pub book_of : List Message → List Join → Book
book_of messages joins = record { messages = messages; joins = joins }

unfoldable pub book_at : List ℕ → Reading Book
book_at bytes = do
  messages ← messages_at bytes
  joins ← joins_at messages.1
  Ok (book_of messages.0 joins.0, joins.1)

-- a count in four bytes, and so many calls
unfoldable pub mailbox_at : List ℕ → Reading (List Message)
mailbox_at bytes = do
  n ← number_at w32 bytes
  each_at call_at n.0 n.1

abbrev pub with_book_and_mailbox : Resident → Book → List Message → Resident
with_book_and_mailbox r book mailbox = record r { book = book; mailbox = mailbox }

unfoldable pub actor_at : List ℕ → Reading Resident
actor_at bytes = do
  state ← state_at bytes
  book ← book_at state.1
  mailbox ← mailbox_at book.1
  Ok (with_book_and_mailbox state.0 book.0 mailbox.0, mailbox.1)

-- an actor with nothing after it
unfoldable pub whole_actor_at : List ℕ → Reading Resident
whole_actor_at bytes = do
  r ← actor_at bytes
  if_none_left r.0 r.1

-- the actor that the bytes spell, or the fault with its place
unfoldable pub unpacked_actor : List ℕ → Result Resident DecodeFault
unpacked_actor bytes = with_offset bytes (whole_actor_at bytes)
