-- Envelopes on bytes. Numbers have their highest byte first.
use Rattle.std.specs.Prelude.{ℕ, Bool, true, false, ◌&&◌, if◌then◌else◌, nat_eq, nat_le, List, [], ◌∷◌, ◌++◌, length, Option, Some, None}
use Rattle.std.specs.Int.{w16, w32, w64, to_be_bytes}
use Rattle.std.specs.List.{list_all, flat_map}
use Rattle.sal_value.specs.declared.name.Name.{Name}
use Rattle.sal_value.specs.declared.name.Name.TheVariants as name
use Rattle.sal_value.specs.declared.name.Uan.{Uan}
use Rattle.sal_value.specs.declared.name.Ual.{Ual}
use Rattle.sal_value.specs.declared.value.Value.{Value}
use Rattle.sal_value.specs.Names.{ual_text, is_uan, is_ual}
use Rattle.sal_value.specs.Spelling.{name_spelling, name_is_spelled, spelling, is_spelled}
use Rattle.sal_mail.specs.declared.message.Target.{Target}
use Rattle.sal_mail.specs.declared.message.Target.TheVariants as target
use Rattle.sal_mail.specs.declared.message.Reply.{Reply}
use Rattle.sal_mail.specs.declared.message.Reply.TheVariants.{Nobody, Tok, Place, Outside}
use Rattle.sal_mail.specs.declared.message.Message.{Message}
use Rattle.sal_mail.specs.declared.effects.Actor.{Actor}
use Rattle.sal_mail.specs.declared.envelope.Envelope.{Envelope}
use Rattle.sal_mail.specs.declared.envelope.Envelope.TheVariants as envelope
use Rattle.sal_mail.specs.Message.{is_ready, known_values}

-- ---- fields

-- numbers in 2, 4 and 8 bytes
unfoldable pub bytes_16 : ℕ → List ℕ
bytes_16 n = to_be_bytes w16 n

unfoldable pub bytes_32 : ℕ → List ℕ
bytes_32 n = to_be_bytes w32 n

unfoldable pub bytes_64 : ℕ → List ℕ
bytes_64 n = to_be_bytes w64 n

-- a universal name, as a name
abbrev pub uan_spelling : Uan → List ℕ
uan_spelling u = name_spelling (name.Uan u)

-- a locator's canonical text after its length
unfoldable pub locator_spelling : Ual → List ℕ
locator_spelling place = bytes_16 (length (ual_text place)) ++ ual_text place

-- a count in one byte, and so many values
unfoldable pub values_spelling : List Value → List ℕ
values_spelling vs = length vs ∷ flat_map spelling vs

-- a maker and a number
abbrev pub made_spelling : Name → ℕ → List ℕ
made_spelling maker serial = name_spelling maker ++ bytes_64 serial

-- to whom a reply is owed: a kind, and what tells the receiver
unfoldable pub reply_spelling : Reply → List ℕ
reply_spelling Nobody = 0 ∷ []
reply_spelling (Tok maker number) = 1 ∷ made_spelling maker number
reply_spelling (Place maker join at) = 2 ∷ (made_spelling maker join ++ bytes_32 at)
reply_spelling (Outside number) = 3 ∷ bytes_64 number

-- the name of a call's target; a call never goes to the output
unfoldable pub callee_spelling : Target → List ℕ
callee_spelling (target.Actor n) = name_spelling n
callee_spelling target.Output = []

-- the numbers of a behaviour and a handler
abbrev pub handler_spelling : ℕ → ℕ → List ℕ
handler_spelling behavior handler = bytes_16 behavior ++ bytes_16 handler

-- a call: its maker and number, its target, behaviour and handler, its values, and its reply
unfoldable pub call_spelling : Message → List ℕ
call_spelling m =
    made_spelling m.maker m.serial ++ (callee_spelling m.target ++ (handler_spelling m.behavior m.handler
    ++ (values_spelling (known_values m.args) ++ reply_spelling m.reply)))

-- where a name was found, and its number of moves, or that it wasn't
unfoldable pub found_spelling : Option (Ual × ℕ) → List ℕ
found_spelling None = 0 ∷ []
found_spelling (Some found) = 1 ∷ (locator_spelling found.0 ++ bytes_64 found.1)

-- an actor under a universal name: its behaviour, and its fields
unfoldable pub actor_spelling : Actor → List ℕ
actor_spelling a = name_spelling a.name ++ (bytes_16 a.behavior ++ values_spelling a.fields)

-- ---- envelopes

-- a tag, and its fields
unfoldable pub envelope_spelling : Envelope → List ℕ
envelope_spelling (envelope.Call hops m) = 1 ∷ (bytes_32 hops ++ call_spelling m)
envelope_spelling (envelope.Reply hops r v) =
    2 ∷ (bytes_32 hops ++ (reply_spelling r ++ spelling v))
envelope_spelling (envelope.Create a) = 3 ∷ actor_spelling a
envelope_spelling (envelope.Move packed) = 4 ∷ packed
envelope_spelling (envelope.Put maker serial n place) =
    5 ∷ (made_spelling maker serial ++ (uan_spelling n ++ locator_spelling place))
envelope_spelling (envelope.PutReply maker serial bound) =
    6 ∷ (made_spelling maker serial ++ ((if bound then 0 else 1) ∷ []))
envelope_spelling (envelope.Get n) = 7 ∷ uan_spelling n
envelope_spelling (envelope.GetReply n found) = 8 ∷ (uan_spelling n ++ found_spelling found)
envelope_spelling (envelope.Update n place moves) =
    9 ∷ (uan_spelling n ++ (locator_spelling place ++ bytes_64 moves))

-- ---- which envelopes have a spelling

-- at most so many values, each with a spelling
abbrev pub values_are_spelled : ℕ → List Value → Bool
values_are_spelled most vs = nat_le (length vs) most && list_all is_spelled vs

-- the maker's name, if there is one, has a spelling
unfoldable pub reply_is_spelled : Reply → Bool
reply_is_spelled Nobody = true
reply_is_spelled (Tok maker number) = name_is_spelled maker
reply_is_spelled (Place maker join at) = name_is_spelled maker
reply_is_spelled (Outside number) = true

-- it is owed to a token or to a place
abbrev pub is_inner : Reply → Bool
is_inner Nobody = false
is_inner (Tok maker number) = true
is_inner (Place maker join at) = true
is_inner (Outside number) = false

unfoldable pub callee_is_spelled : Target → Bool
callee_is_spelled (target.Actor n) = name_is_spelled n
callee_is_spelled target.Output = false

-- A call to an actor that waits for nothing and has no delay, with at most 16 values.
unfoldable pub call_is_spelled : Message → Bool
call_is_spelled m =
    name_is_spelled m.maker && (callee_is_spelled m.target && (is_ready m && (nat_eq m.delay 0
    && (values_are_spelled 16 (known_values m.args) && reply_is_spelled m.reply))))

abbrev pub is_universal : Name → Bool
is_universal (name.Uan u) = true
is_universal (name.Anon theatre number) = false
is_universal (name.Outside number) = false

unfoldable pub found_is_spelled : Option (Ual × ℕ) → Bool
found_is_spelled None = true
found_is_spelled (Some found) = is_ual found.0

unfoldable pub actor_is_spelled : Actor → Bool
actor_is_spelled a =
    is_universal a.name && (name_is_spelled a.name && values_are_spelled 255 a.fields)

-- Its names, locators and values have spellings, and its counts fit.
unfoldable pub envelope_is_spelled : Envelope → Bool
envelope_is_spelled (envelope.Call hops m) = call_is_spelled m
envelope_is_spelled (envelope.Reply hops r v) = is_inner r && (reply_is_spelled r && is_spelled v)
envelope_is_spelled (envelope.Create a) = actor_is_spelled a
envelope_is_spelled (envelope.Move packed) = true
envelope_is_spelled (envelope.Put maker serial n place) =
    name_is_spelled maker && (is_uan n && is_ual place)
envelope_is_spelled (envelope.PutReply maker serial bound) = name_is_spelled maker
envelope_is_spelled (envelope.Get n) = is_uan n
envelope_is_spelled (envelope.GetReply n found) = is_uan n && found_is_spelled found
envelope_is_spelled (envelope.Update n place moves) = is_uan n && is_ual place
