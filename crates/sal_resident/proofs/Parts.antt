-- Actors that are written part by part, and the parts that have spellings.
use Rattle.std.proofs.Common.{◌≡◌, ℕ, zero, suc, ◌<◌, ◌≤◌, Bool, true, ◌&&◌, List, [], ◌∷◌, ◌++◌, length, get_or, Option, ap, ◌∙◌, append_assoc, arith}
use Rattle.std.specs.Prelude.{nat_le, nat_lt}
use Rattle.std.specs.List.{list_all}
use Rattle.std.proofs.lemmas.Bool.{and_parts}
use Rattle.std.proofs.lemmas.Bool.Decides.{nat_tests}
use Rattle.sal_value.specs.declared.value.Value.{Value}
use Rattle.sal_value.specs.Spelling.{name_is_spelled, is_spelled}
use Rattle.sal_mail.specs.declared.message.Piece.{Piece}
use Rattle.sal_mail.specs.declared.message.Message.{Message}
use Rattle.sal_mail.specs.declared.message.Join.{Join}
use Rattle.sal_envelope.specs.Spelling.{reply_is_spelled, values_are_spelled, call_is_spelled, is_universal}
use Rattle.sal_envelope.proofs.Parts.{two_parts, three_parts}
use Rattle.sal_book.specs.Book.{Book, message_numbers, join_numbers, rise, is_waiting, is_open}
use Rattle.sal_resident.specs.declared.resident.Resident.{Resident}
use Rattle.sal_resident.specs.Packing.{target_is_spelled, piece_is_spelled, message_is_spelled, slot_is_spelled, are_spelled, join_is_spelled, state_is_spelled, book_is_spelled, is_packable}

-- ---- bytes

pub seven_parts : (old a b c d e f g : List ℕ) → ((((((old ++ a) ++ b) ++ c) ++ d) ++ e) ++ f) ++ g ≡ old ++ (a ++ (b ++ (c ++ (d ++ (e ++ (f ++ g))))))
seven_parts old a b c d e f g =
    three_parts ((((old ++ a) ++ b) ++ c) ++ d) e f g ∙ three_parts ((old ++ a) ++ b) c d (e ++ (f ++ g)) ∙ two_parts (old ++ a) b (c ++ (d ++ (e ++ (f ++ g)))) ∙ two_parts old a (b ++ (c ++ (d ++ (e ++ (f ++ g)))))

-- a number, a byte, and two parts more
pub join_parts : (old a : List ℕ) (t : ℕ) (b c : List ℕ) → (((old ++ a) ++ t ∷ []) ++ b) ++ c ≡ old ++ (a ++ (t ∷ (b ++ c)))
join_parts old a t b c = three_parts (old ++ a) (t ∷ []) b c ∙ two_parts old a (t ∷ (b ++ c))

-- ---- each of a list has a spelling

item_in : {X : Type 0} (good : X → Bool) (xs : List X) (i : ℕ) (x : X) → i < length xs → x ≡ get_or xs i x → list_all good xs ≡ true → good x ≡ true
item_in good [] i x lt at h = absurd (omega arith)
item_in good (y ∷ ys) zero x lt at h = ap good at ∙ (and_parts (good y) (list_all good ys) h).0
item_in good (y ∷ ys) (suc i) x lt at h = item_in good ys i x (omega arith) at (and_parts (good y) (list_all good ys) h).1

pub piece_in : (xs : List Piece) (i : ℕ) (x : Piece) → i < length xs → x ≡ get_or xs i x → list_all piece_is_spelled xs ≡ true → piece_is_spelled x ≡ true
piece_in xs i x lt at h = item_in piece_is_spelled xs i x lt at h

pub slot_in : (xs : List (Option Value)) (i : ℕ) (x : Option Value) → i < length xs → x ≡ get_or xs i x → list_all slot_is_spelled xs ≡ true → slot_is_spelled x ≡ true
slot_in xs i x lt at h = item_in slot_is_spelled xs i x lt at h

pub message_in : (xs : List Message) (i : ℕ) (x : Message) → i < length xs → x ≡ get_or xs i x → list_all message_is_spelled xs ≡ true → message_is_spelled x ≡ true
message_in xs i x lt at h = item_in message_is_spelled xs i x lt at h

pub join_in : (xs : List Join) (i : ℕ) (x : Join) → i < length xs → x ≡ get_or xs i x → list_all join_is_spelled xs ≡ true → join_is_spelled x ≡ true
join_in xs i x lt at h = item_in join_is_spelled xs i x lt at h

pub call_in : (xs : List Message) (i : ℕ) (x : Message) → i < length xs → x ≡ get_or xs i x → list_all call_is_spelled xs ≡ true → call_is_spelled x ≡ true
call_in xs i x lt at h = item_in call_is_spelled xs i x lt at h

-- ---- what has a spelling, part by part

at_most : (n most : ℕ) → nat_le n most ≡ true → n ≤ most
at_most n most h = grind (arith, nat_tests)

below : (n limit : ℕ) → nat_lt n limit ≡ true → n < limit
below n limit h = grind (arith, nat_tests)

pub record ListGood {X : Type 0} (good : X → Bool) (xs : List X) : Type 0 where
  pub few : length xs < 4294967296
  pub each : list_all good xs ≡ true

pub list_good : {X : Type 0} (good : X → Bool) (xs : List X) → are_spelled good xs ≡ true → ListGood good xs
list_good good xs h =
    let p = and_parts (nat_lt (length xs) 4294967296) (list_all good xs) h in
    record { few = below (length xs) 4294967296 p.0; each = p.1 }

pub record MessageGood (m : Message) : Type 0 where
  pub maker : name_is_spelled m.maker ≡ true
  pub target : target_is_spelled m.target ≡ true
  pub few_args : length m.args ≤ 255
  pub args : list_all piece_is_spelled m.args ≡ true
  pub few_after : length m.after ≤ 65535
  pub reply : reply_is_spelled m.reply ≡ true
  pub waits : is_waiting m ≡ true

pub message_good : (m : Message) → message_is_spelled m ≡ true → MessageGood m
unfolding message_is_spelled
message_good m h =
    let a = and_parts (name_is_spelled m.maker) (target_is_spelled m.target && (nat_le (length m.args) 255 && (list_all piece_is_spelled m.args && (nat_le (length m.after) 65535 && (reply_is_spelled m.reply && is_waiting m))))) h in
    let b = and_parts (target_is_spelled m.target) (nat_le (length m.args) 255 && (list_all piece_is_spelled m.args && (nat_le (length m.after) 65535 && (reply_is_spelled m.reply && is_waiting m)))) a.1 in
    let c = and_parts (nat_le (length m.args) 255) (list_all piece_is_spelled m.args && (nat_le (length m.after) 65535 && (reply_is_spelled m.reply && is_waiting m))) b.1 in
    let d = and_parts (list_all piece_is_spelled m.args) (nat_le (length m.after) 65535 && (reply_is_spelled m.reply && is_waiting m)) c.1 in
    let e = and_parts (nat_le (length m.after) 65535) (reply_is_spelled m.reply && is_waiting m) d.1 in
    let f = and_parts (reply_is_spelled m.reply) (is_waiting m) e.1 in
    record {
      maker = a.0;
      target = b.0;
      few_args = at_most (length m.args) 255 c.0;
      args = d.0;
      few_after = at_most (length m.after) 65535 e.0;
      reply = f.0;
      waits = f.1;
    }

pub record JoinGood (j : Join) : Type 0 where
  pub slots : ListGood slot_is_spelled j.places
  pub reply : reply_is_spelled j.reply ≡ true
  pub still_open : is_open j ≡ true

pub join_good : (j : Join) → join_is_spelled j ≡ true → JoinGood j
unfolding join_is_spelled
join_good j h =
    let a = and_parts (are_spelled slot_is_spelled j.places) (reply_is_spelled j.reply && is_open j) h in
    let b = and_parts (reply_is_spelled j.reply) (is_open j) a.1 in
    record { slots = list_good slot_is_spelled j.places a.0; reply = b.0; still_open = b.1 }

pub record StateGood (r : Resident) : Type 0 where
  pub universal : is_universal r.name ≡ true
  pub name : name_is_spelled r.name ≡ true
  pub few : length r.fields ≤ 255
  pub fields : list_all is_spelled r.fields ≡ true

pub state_good : (r : Resident) → state_is_spelled r ≡ true → StateGood r
unfolding state_is_spelled
state_good r h =
    let a = and_parts (is_universal r.name) (name_is_spelled r.name && values_are_spelled 255 r.fields) h in
    let b = and_parts (name_is_spelled r.name) (values_are_spelled 255 r.fields) a.1 in
    let c = and_parts (nat_le (length r.fields) 255) (list_all is_spelled r.fields) b.1 in
    record { universal = a.0; name = b.0; few = at_most (length r.fields) 255 c.0; fields = c.1 }

pub record BookGood (b : Book) : Type 0 where
  pub messages : ListGood message_is_spelled b.messages
  pub messages_rise : rise (message_numbers b.messages) ≡ true
  pub joins : ListGood join_is_spelled b.joins
  pub joins_rise : rise (join_numbers b.joins) ≡ true

pub book_good : (b : Book) → book_is_spelled b ≡ true → BookGood b
unfolding book_is_spelled
book_good b h =
    let a = and_parts (are_spelled message_is_spelled b.messages && rise (message_numbers b.messages)) (are_spelled join_is_spelled b.joins && rise (join_numbers b.joins)) h in
    let m = and_parts (are_spelled message_is_spelled b.messages) (rise (message_numbers b.messages)) a.0 in
    let j = and_parts (are_spelled join_is_spelled b.joins) (rise (join_numbers b.joins)) a.1 in
    record {
      messages = list_good message_is_spelled b.messages m.0;
      messages_rise = m.1;
      joins = list_good join_is_spelled b.joins j.0;
      joins_rise = j.1;
    }

pub record ActorGood (r : Resident) : Type 0 where
  pub state : state_is_spelled r ≡ true
  pub book : book_is_spelled r.book ≡ true
  pub mailbox : ListGood call_is_spelled r.mailbox

pub actor_good : (r : Resident) → is_packable r ≡ true → ActorGood r
unfolding is_packable
actor_good r h =
    let a = and_parts (state_is_spelled r) (book_is_spelled r.book && are_spelled call_is_spelled r.mailbox) h in
    let b = and_parts (book_is_spelled r.book) (are_spelled call_is_spelled r.mailbox) a.1 in
    record { state = a.0; book = b.0; mailbox = list_good call_is_spelled r.mailbox b.1 }
