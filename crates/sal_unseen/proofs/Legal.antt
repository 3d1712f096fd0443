-- How long legal envelopes are.
use Rattle.std.proofs.Common.{◌≡◌, ℕ, ◌+◌, ◌≤◌, true, ◌&&◌, List, [], ◌∷◌, ◌++◌, length, refl, arith}
use Rattle.std.specs.Prelude.{◌*◌, nat_le, flat_map}
use Rattle.std.specs.List.{list_all}
use Rattle.std.proofs.lemmas.Bool.{le-leb}
use Rattle.std.proofs.lemmas.List.{length-append}
use Rattle.sal_value.specs.declared.name.Name.{Name}
use Rattle.sal_value.specs.declared.name.Name.TheVariants as name
use Rattle.sal_value.specs.declared.name.Uan.{Uan}
use Rattle.sal_value.specs.declared.name.Ual.{Ual}
use Rattle.sal_value.specs.declared.value.Value.{Value}
use Rattle.sal_value.specs.Names.{ual_text}
use Rattle.sal_value.specs.Spelling.{name_spelling, spelling, is_spelled}
use Rattle.sal_mail.specs.declared.message.Piece.{Piece}
use Rattle.sal_mail.specs.declared.message.Piece.TheVariants.{Known, Token}
use Rattle.sal_mail.specs.declared.message.Target.{Target}
use Rattle.sal_mail.specs.declared.message.Target.TheVariants as target
use Rattle.sal_mail.specs.declared.message.Message.{Message}
use Rattle.sal_mail.specs.declared.effects.Actor.{Actor}
use Rattle.sal_mail.specs.declared.envelope.Envelope.{Envelope}
use Rattle.sal_mail.specs.declared.envelope.Envelope.TheVariants as envelope
use Rattle.sal_mail.specs.Message.{known_values, without_delay}
use Rattle.sal_envelope.specs.Spelling.{bytes_16, bytes_32, uan_spelling, locator_spelling, values_spelling, made_spelling, reply_spelling, callee_spelling, callee_is_spelled, handler_spelling, call_spelling, call_is_spelled, actor_spelling, actor_is_spelled, envelope_spelling, envelope_is_spelled}
use Rattle.sal_envelope.proofs.Parts.{uan_is_spelled, ual_short}
use Rattle.sal_handler.specs.WellFormed.{EachOf, Legal, IsLegalPiece}
use Rattle.sal_spelled.specs.Sending.{may_be_sent}
use Rattle.sal_unseen.specs.Desks.{IsSentWhole}
use Rattle.sal_unseen.specs.Legal.{IsLegalCall, IsLegalActor, IsLegalPut, WhatIsLegalIsSentWhole}
use Rattle.sal_unseen.proofs.Sending.{sent_whole}
use Rattle.sal_unseen.proofs.Replies.{name_short, made_short, reply_short, legal_parts, parcel_by}

-- ---- values

items_short : (vs : List Value) → EachOf Legal vs → length (flat_map spelling vs) ≤ length vs * 65536
items_short [] legal = omega arith
items_short (x ∷ vs) legal =
    let size : length (spelling x) ≤ 65536 = (legal_parts x legal.0).1 in
    let rest = items_short vs legal.1 in
    omega (arith, size, rest, length-append (spelling x) (flat_map spelling vs))

values_short : (vs : List Value) → EachOf Legal vs → length (values_spelling vs) ≤ 1 + length vs * 65536
unfolding values_spelling
values_short vs legal = omega (arith, items_short vs legal)

all_spelled : (vs : List Value) → EachOf Legal vs → list_all is_spelled vs ≡ true
all_spelled [] legal = refl
all_spelled (x ∷ vs) legal = λ i. (legal_parts x legal.0).0 i && all_spelled vs legal.1 i

known_legal : (args : List Piece) → EachOf IsLegalPiece args → EachOf Legal (known_values args)
known_legal [] legal = tt
known_legal (Known x ∷ args) legal = (legal.0, known_legal args legal.1)
known_legal (Token n ∷ args) legal = known_legal args legal.1

known_few : (args : List Piece) → length (known_values args) ≤ length args
known_few [] = omega arith
known_few (Known x ∷ args) = omega (arith, known_few args)
known_few (Token n ∷ args) = omega (arith, known_few args)

-- ---- what may be sent

may_be : (e : Envelope) → envelope_is_spelled e ≡ true → 1 ≤ length (envelope_spelling e) → length (envelope_spelling e) ≤ 16777216 → may_be_sent e ≡ true
unfolding may_be_sent
may_be e spelled least most = λ i. spelled i && parcel_by (envelope_spelling e) least most i

callee_short : (t : Target) → callee_is_spelled t ≡ true → length (callee_spelling t) ≤ 60000
unfolding callee_is_spelled callee_spelling
callee_short (target.Actor n) e = name_short n e
callee_short target.Output e = omega arith

handler_short : (behavior handler : ℕ) → length (handler_spelling behavior handler) ≤ 4
unfolding bytes_16
handler_short behavior handler = omega (arith, length-append (bytes_16 behavior) (bytes_16 handler))

call_short : (m : Message) → IsLegalCall m → length (call_spelling m) ≤ 1300000
unfolding call_spelling
call_short m h =
    let vs : List Value = known_values m.args in
    let made : List ℕ = made_spelling m.maker m.serial in
    let callee : List ℕ = callee_spelling m.target in
    let handler : List ℕ = handler_spelling m.behavior m.handler in
    let values : List ℕ = values_spelling vs in
    let reply : List ℕ = reply_spelling m.reply in
    let size = values_short vs (known_legal m.args h.args) in
    let few : length m.args ≤ 16 = h.few in
    omega (
      arith,
      length-append made (callee ++ (handler ++ (values ++ reply))),
      length-append callee (handler ++ (values ++ reply)),
      length-append handler (values ++ reply),
      length-append values reply,
      made_short m.maker m.serial h.maker,
      callee_short m.target h.callee,
      handler_short m.behavior m.handler,
      reply_short m.reply h.reply,
      size,
      few,
      known_few m.args,
    )

call_spelled : (m : Message) → IsLegalCall m → call_is_spelled (without_delay m) ≡ true
unfolding call_is_spelled
call_spelled m h =
    let few : nat_le (length (known_values m.args)) 16 ≡ true = le-leb (length (known_values m.args)) 16 (let f = h.few in omega (arith, f, known_few m.args)) in
    let values = all_spelled (known_values m.args) (known_legal m.args h.args) in
    λ i. h.maker i && (h.callee i && (h.ready i && (true && ((few i && values i) && h.reply i))))

call_length : (hops : ℕ) (m : Message) → length (envelope_spelling (envelope.Call hops (without_delay m))) ≡ 5 + length (call_spelling m)
unfolding envelope_spelling call_spelling bytes_32
call_length hops m = omega arith

calls_whole : (hops : ℕ) (m : Message) → IsLegalCall m → IsSentWhole (envelope.Call hops (without_delay m))
unfolding envelope_is_spelled
calls_whole hops m h =
    let size = call_length hops m in
    let short = call_short m h in
    sent_whole (envelope.Call hops (without_delay m)) (may_be (envelope.Call hops (without_delay m)) (call_spelled m h) (omega (arith, size)) (omega (arith, size, short))) h.range

-- ---- new actors

actor_short : (a : Actor) → IsLegalActor a → length (actor_spelling a) ≤ 16771700
unfolding actor_spelling bytes_16
actor_short a h =
    let size = values_short a.fields h.fields in
    let few : length a.fields ≤ 255 = h.few in
    omega (
      arith,
      length-append (name_spelling a.name) (bytes_16 a.behavior ++ values_spelling a.fields),
      length-append (bytes_16 a.behavior) (values_spelling a.fields),
      name_short a.name h.name,
      size,
      few,
    )

actors_whole : (a : Actor) → IsLegalActor a → IsSentWhole (envelope.Create a)
unfolding envelope_is_spelled actor_is_spelled envelope_spelling
actors_whole a h =
    let few : nat_le (length a.fields) 255 ≡ true = le-leb (length a.fields) 255 h.few in
    let values = all_spelled a.fields h.fields in
    let short = actor_short a h in
    sent_whole (envelope.Create a)
    (may_be (envelope.Create a) (λ i. h.universal i && (h.name i && (few i && values i))) (omega arith) (omega (arith, short)))
    (λ i. h.behavior i && h.range i)

-- ---- names that are asked for

put_short : (maker : Name) (serial : ℕ) (u : Uan) (place : Ual) → IsLegalPut maker serial u place → length (made_spelling maker serial ++ (uan_spelling u ++ locator_spelling place)) ≤ 200000
unfolding locator_spelling bytes_16
put_short maker serial u place h =
    omega (
      arith,
      length-append (made_spelling maker serial) (uan_spelling u ++ (bytes_16 (length (ual_text place)) ++ ual_text place)),
      length-append (uan_spelling u) (bytes_16 (length (ual_text place)) ++ ual_text place),
      length-append (bytes_16 (length (ual_text place))) (ual_text place),
      made_short maker serial h.made,
      name_short (name.Uan u) (uan_is_spelled u h.name),
      ual_short place h.locator,
    )

puts_whole : (maker : Name) (serial : ℕ) (u : Uan) (place : Ual) → IsLegalPut maker serial u place → IsSentWhole (envelope.Put maker serial u place)
unfolding envelope_is_spelled envelope_spelling
puts_whole maker serial u place h =
    let short = put_short maker serial u place h in
    sent_whole (envelope.Put maker serial u place)
    (may_be (envelope.Put maker serial u place) (λ i. h.made i && (h.name i && h.locator i)) (omega arith) (omega (arith, short)))
    (λ i. h.range i && h.number i)

pub legal_whole : WhatIsLegalIsSentWhole
legal_whole = record { calls = calls_whole; actors = actors_whole; puts = puts_whole }
