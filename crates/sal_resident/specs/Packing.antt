-- Actors on bytes, with all that they take along. Numbers have their highest byte first.
use Rattle.std.specs.Prelude.{ℕ, Bool, true, false, ◌&&◌, if◌then◌else◌, nat_le, nat_lt, List, [], ◌∷◌, ◌++◌, length, Option, Some, None, Result, Ok, Err, ◌≡◌, IsTrue}
use Rattle.std.specs.List.{list_all, flat_map}
use Rattle.sal_value.specs.declared.value.Value.{Value}
use Rattle.sal_value.specs.Spelling.{name_spelling, name_is_spelled, spelling, is_spelled}
use Rattle.sal_mail.specs.declared.message.Piece.{Piece}
use Rattle.sal_mail.specs.declared.message.Piece.TheVariants.{Known, Token}
use Rattle.sal_mail.specs.declared.message.Target.{Target}
use Rattle.sal_mail.specs.declared.message.Target.TheVariants as target
use Rattle.sal_mail.specs.declared.message.Message.{Message}
use Rattle.sal_mail.specs.declared.message.Join.{Join}
use Rattle.sal_envelope.specs.Spelling.{bytes_16, bytes_32, bytes_64, values_spelling, values_are_spelled, made_spelling, handler_spelling, reply_spelling, reply_is_spelled, call_spelling, call_is_spelled, is_universal}
use Rattle.sal_book.specs.Book.{Book, message_numbers, join_numbers, rise, is_waiting, is_open}
use Rattle.sal_resident.specs.declared.resident.Resident.{Resident}
use Rattle.sal_resident.specs.declared.resident.PackFault.{PackFault}
use Rattle.sal_resident.specs.declared.resident.PackFault.TheVariants.{TooLarge, Memory}

-- ---- messages that wait

-- to whom a message goes: to the output, or to an actor
unfoldable pub target_spelling : Target → List ℕ
target_spelling target.Output = 0 ∷ []
target_spelling (target.Actor n) = 1 ∷ name_spelling n

-- an argument: a value, or the number of the message or join whose reply it will be
unfoldable pub piece_spelling : Piece → List ℕ
piece_spelling (Known v) = 0 ∷ spelling v
piece_spelling (Token number) = 1 ∷ bytes_64 number

-- a count in one byte, and so many arguments
unfoldable pub pieces_spelling : List Piece → List ℕ
pieces_spelling pieces = length pieces ∷ flat_map piece_spelling pieces

-- a count in two bytes, and so many numbers
unfoldable pub numbers_spelling : List ℕ → List ℕ
numbers_spelling numbers = bytes_16 (length numbers) ++ flat_map bytes_64 numbers

-- its maker and number, its target, behaviour and handler, its arguments, the numbers whose replies it waits for
-- without using them, its delay, and its reply
unfoldable pub message_spelling : Message → List ℕ
message_spelling m =
    made_spelling m.maker m.serial ++ (target_spelling m.target ++ (handler_spelling m.behavior m.handler
    ++ (pieces_spelling m.args ++ (numbers_spelling m.after ++ (bytes_32 m.delay ++ reply_spelling m.reply)))))

-- ---- joins

-- a slot: empty, or a value
unfoldable pub slot_spelling : Option Value → List ℕ
slot_spelling None = 0 ∷ []
slot_spelling (Some v) = 1 ∷ spelling v

-- a count in four bytes, and so many things, one after the other
unfoldable pub list_spelling : {X : Type 0} → (X → List ℕ) → List X → List ℕ
list_spelling one xs = bytes_32 (length xs) ++ flat_map one xs

-- its number, whether it is void, its slots, and its reply
unfoldable pub join_spelling : Join → List ℕ
join_spelling j =
    bytes_64 j.number ++ ((if j.void then 1 else 0) ∷ (list_spelling slot_spelling j.places ++ reply_spelling j.reply))

-- ---- the actor

-- its name, how often it moved, its behaviour, its fields, and its next number
unfoldable pub state_spelling : Resident → List ℕ
state_spelling r =
    name_spelling r.name ++ (bytes_64 r.moves ++ (bytes_16 r.behavior ++ (values_spelling r.fields ++ bytes_64 r.serial)))

-- messages that wait, and open joins
unfoldable pub book_spelling : Book → List ℕ
book_spelling b = list_spelling message_spelling b.messages ++ list_spelling join_spelling b.joins

-- and the calls that it takes along
unfoldable pub packed_actor : Resident → List ℕ
packed_actor r = state_spelling r ++ (book_spelling r.book ++ list_spelling call_spelling r.mailbox)

-- so that with its tag it is an envelope of at most 16,777,216 bytes
abbrev pub pack_limit : ℕ
pack_limit = 16777215

-- it is short enough to move
abbrev pub is_light : Resident → Bool
is_light r = nat_le (length (packed_actor r)) pack_limit

-- what packing answers; whenever memory runs out it may say so
abbrev pub Packs : Resident → Result (List ℕ) PackFault → Type 0
Packs r (Ok bytes) = (bytes ≡ packed_actor r) × IsTrue (is_light r)
Packs r (Err TooLarge) = is_light r ≡ false
Packs r (Err Memory) = Unit {0}

-- ---- which actors have a spelling, but for its whole length

unfoldable pub target_is_spelled : Target → Bool
target_is_spelled target.Output = true
target_is_spelled (target.Actor n) = name_is_spelled n

unfoldable pub piece_is_spelled : Piece → Bool
piece_is_spelled (Known v) = is_spelled v
piece_is_spelled (Token number) = true

-- It waits for something, and has at most 255 arguments and 65,535 numbers without an argument.
unfoldable pub message_is_spelled : Message → Bool
message_is_spelled m =
    name_is_spelled m.maker && (target_is_spelled m.target && (nat_le (length m.args) 255 && (list_all piece_is_spelled m.args
    && (nat_le (length m.after) 65535 && (reply_is_spelled m.reply && is_waiting m)))))

unfoldable pub slot_is_spelled : Option Value → Bool
slot_is_spelled None = true
slot_is_spelled (Some v) = is_spelled v

-- there are fewer than 2^32 of them, and each has a spelling
abbrev pub are_spelled : {X : Type 0} → (X → Bool) → List X → Bool
are_spelled one xs = nat_lt (length xs) 4294967296 && list_all one xs

-- A slot at least is empty.
unfoldable pub join_is_spelled : Join → Bool
join_is_spelled j = are_spelled slot_is_spelled j.places && (reply_is_spelled j.reply && is_open j)

-- its name is universal
unfoldable pub state_is_spelled : Resident → Bool
state_is_spelled r = is_universal r.name && (name_is_spelled r.name && values_are_spelled 255 r.fields)

-- the numbers of the messages rise, and so do those of the joins
unfoldable pub book_is_spelled : Book → Bool
book_is_spelled b =
    (are_spelled message_is_spelled b.messages && rise (message_numbers b.messages))
    && (are_spelled join_is_spelled b.joins && rise (join_numbers b.joins))

unfoldable pub is_packable : Resident → Bool
is_packable r = state_is_spelled r && (book_is_spelled r.book && are_spelled call_is_spelled r.mailbox)
