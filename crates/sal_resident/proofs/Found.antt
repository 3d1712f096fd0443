-- What is read of an actor is good, and is spelled by the bytes that reading takes.
use Rattle.std.proofs.Common.{◌≡◌, ℕ, zero, suc, ◌<◌, ◌^◌, Bool, true, false, ◌&&◌, List, [], ◌∷◌, ◌++◌, length, map, Option, Some, None, Ok, Err, refl, sym, ap, subst, ◌∙◌, append-nil, arith}
use Rattle.std.specs.Prelude.{if◌then◌else◌, not, nat_lt, nat_le}
use Rattle.std.specs.Int.{Width, w16, w32, w64, byte_len, to_be_bytes, from_be_bytes}
use Rattle.std.specs.List.{list_all, flat_map}
use Rattle.std.proofs.lemmas.Bool.{and_parts}
use Rattle.std.proofs.lemmas.Bool.Decides.{nat_tests}
use Rattle.sal_value.specs.declared.name.Name.{Name}
use Rattle.sal_value.specs.declared.name.Name.TheVariants as name
use Rattle.sal_value.specs.declared.value.Value.{Value}
use Rattle.sal_value.specs.Spelling.{name_spelling, name_is_spelled, spelling, is_spelled}
use Rattle.sal_value.specs.Coding.{IsBytes}
use Rattle.sal_value.proofs.Takes.{IsWide, wide16, wide32, Takes, takes_then, takes_tag}
use Rattle.sal_mail.specs.declared.message.Piece.{Piece}
use Rattle.sal_mail.specs.declared.message.Piece.TheVariants.{Known, Token}
use Rattle.sal_mail.specs.declared.message.Target.{Target}
use Rattle.sal_mail.specs.declared.message.Target.TheVariants as target
use Rattle.sal_mail.specs.declared.message.Reply.{Reply}
use Rattle.sal_mail.specs.declared.message.Message.{Message}
use Rattle.sal_mail.specs.declared.message.Join.{Join}
use Rattle.sal_mail.specs.Message.{is_ready, is_full}
use Rattle.sal_envelope.specs.Spelling.{bytes_16, bytes_32, bytes_64, uan_spelling, values_spelling, values_are_spelled, made_spelling, handler_spelling, reply_spelling, reply_is_spelled, call_spelling, call_is_spelled, is_universal}
use Rattle.sal_envelope.specs.Decoding.{Reading, ◌>>=◌, wrong, byte_at, number_at, bool_at, name_at, value_at, values_at, reply_at, handler_at, call_at, if_none_left, with_offset}
use Rattle.sal_envelope.proofs.Found.{Holds, then_holds, done_holds, wrong_holds, if_holds, weaker, and_true, byte_found, bytes_found, found_16, found_32, found_64, bool_found, name_found, value_found, uan_found, values_found, reply_found, handler_found}
use Rattle.sal_envelope.proofs.EnvelopesFound.{call_found}
use Rattle.sal_book.specs.Book.{Book, message_numbers, join_numbers, rise, is_waiting, is_open}
use Rattle.sal_resident.specs.declared.resident.Resident.{Resident}
use Rattle.sal_resident.specs.Packing.{target_spelling, target_is_spelled, piece_spelling, piece_is_spelled, pieces_spelling, numbers_spelling, message_spelling, message_is_spelled, slot_spelling, slot_is_spelled, list_spelling, are_spelled, join_spelling, join_is_spelled, state_spelling, state_is_spelled, book_spelling, book_is_spelled, packed_actor, is_packable}
use Rattle.sal_resident.specs.Unpacking.{each_from, each_at, each_numbered_at, is_above, rising_at, made_above_at, target_at, piece_at, pieces_at, numbers_at, if_waiting, message_of, message_at, messages_at, slot_at, slots_at, if_open, join_of, join_at, joins_at, state_of, state_at, book_of, book_at, mailbox_at, with_book_and_mailbox, actor_at, whole_actor_at, unpacked_actor}
use Rattle.sal_resident.specs.Coding.{UnpackedActorsArePacked}

-- ---- things one after the other

-- each is good after the one before it
abbrev pub are_chained : {S A : Type 0} → (A → S) → (S → A → Bool) → S → List A → Bool
are_chained keep good before [] = true
are_chained keep good before (x ∷ xs) = good before x && are_chained keep good (keep x) xs

module _ {S A : Type 0} (keep : A → S) (one : S → List ℕ → Reading A) (spell : A → List ℕ) (good : S → A → Bool) where
  abbrev AreRead : S → ℕ → List ℕ → List A → List ℕ → Type 0
  AreRead before n bytes xs rest = Takes bytes (flat_map spell xs) rest × (length xs ≡ n) × (are_chained keep good before xs ≡ true)

  pub each_found : ((before : S) (bytes : List ℕ) → IsBytes bytes → Holds (one before bytes) (λ x rest. Takes bytes (spell x) rest × (good before x ≡ true)))
      → (before : S) (n : ℕ) (bytes : List ℕ) → IsBytes bytes → Holds (each_from keep one before n bytes) (AreRead before n bytes)
  each_found h before zero bytes small = done_holds [] bytes _ (record { parts = refl; rest_fits = small }, refl, refl)
  each_found h before (suc n) bytes small =
      then_holds _ _ (h before bytes small) (λ x r1 p.
      then_holds _ _ (each_found h (keep x) n r1 p.0.rest_fits) (λ xs rest q.
      done_holds (x ∷ xs) rest _ (takes_then bytes (spell x) r1 (flat_map spell xs) rest p.0 q.0, ap suc q.1, and_true _ _ p.1 q.2)))

-- where nothing is kept, all are good
all_chained : {A : Type 0} (good : A → Bool) (xs : List A) → are_chained {S = Unit {0}} (λ x. tt) (λ before. good) tt xs ≡ true → list_all good xs ≡ true
all_chained good [] h = refl
all_chained good (x ∷ xs) h =
    let p = and_parts (good x) (are_chained {S = Unit {0}} (λ y. tt) (λ before. good) tt xs) h in
    and_true _ _ p.0 (all_chained good xs p.1)

-- numbers above one that is above another are above that, too
above_both : (before : Option ℕ) (n : ℕ) (ns : List ℕ) → is_above before n ≡ true → list_all (nat_lt n) ns ≡ true → list_all (is_above before) ns ≡ true
above_both before n [] a h = refl
above_both before n (m ∷ ms) a h =
    let p = and_parts (nat_lt n m) (list_all (nat_lt n) ms) h in
    and_true _ _ (through before n m a p.0) (above_both before n ms a p.1)
  where
    through : (before : Option ℕ) (n m : ℕ) → is_above before n ≡ true → nat_lt n m ≡ true → is_above before m ≡ true
    through None n m a l = refl
    through (Some k) n m a l = grind (arith, nat_tests)

-- What holds of things whose numbers rise.
pub record AreNumbered {A : Type 0} (number : A → ℕ) (good : A → Bool) (before : Option ℕ) (xs : List A) : Type 0 where
  pub each : list_all good xs ≡ true
  pub rises : rise (map number xs) ≡ true
  pub above : list_all (is_above before) (map number xs) ≡ true

-- good, with a number that rises
abbrev pub numbered : {A : Type 0} → (A → ℕ) → (A → Bool) → Option ℕ → A → Bool
numbered number good before x = is_above before (number x) && good x

numbered_chained : {A : Type 0} (number : A → ℕ) (good : A → Bool) (before : Option ℕ) (xs : List A) → are_chained (λ x. Some (number x)) (numbered number good) before xs ≡ true → AreNumbered number good before xs
numbered_chained number good before [] h = record { each = refl; rises = refl; above = refl }
numbered_chained number good before (x ∷ xs) h =
    let p = and_parts (numbered number good before x) (are_chained (λ y. Some (number y)) (numbered number good) (Some (number x)) xs) h in
    let first = and_parts (is_above before (number x)) (good x) p.0 in
    let others = numbered_chained number good (Some (number x)) xs p.1 in
    record {
      each = and_true _ _ first.1 others.each;
      rises = and_true _ _ others.above others.rises;
      above = and_true _ _ first.0 (above_both before (number x) (map number xs) first.0 others.above);
    }

-- ---- counts

number_fits : (w : Width) (limit : ℕ) → IsWide w limit → (bytes : List ℕ) → IsBytes bytes → Holds (number_at w bytes) (λ n rest. Takes bytes (to_be_bytes w n) rest × (n < limit))
unfolding number_at
number_fits w limit wide bytes small =
    then_holds _ _ (bytes_found (byte_len w) bytes small) (λ t rest p.
    done_holds (from_be_bytes w t) rest _ (subst (λ z. Takes bytes z rest) (sym (wide.back t p.1 p.2)) p.0, wide.below t p.2))

fits_16 : (bytes : List ℕ) → IsBytes bytes → Holds (number_at w16 bytes) (λ n rest. Takes bytes (bytes_16 n) rest × (n < 2 ^ 16))
unfolding bytes_16
fits_16 bytes small = number_fits w16 (2 ^ 16) wide16 bytes small

fits_32 : (bytes : List ℕ) → IsBytes bytes → Holds (number_at w32 bytes) (λ n rest. Takes bytes (bytes_32 n) rest × (n < 2 ^ 32))
unfolding bytes_32
fits_32 bytes small = number_fits w32 (2 ^ 32) wide32 bytes small

byte_fits : (bytes : List ℕ) → IsBytes bytes → Holds (byte_at bytes) (λ n rest. Takes bytes (n ∷ []) rest × (n < 256))
byte_fits bytes small = weaker _ (byte_found bytes small) (λ n rest p. (p, first bytes n rest small p.parts))
  where
    first : (bytes : List ℕ) (n : ℕ) (rest : List ℕ) → IsBytes bytes → bytes ≡ (n ∷ []) ++ rest → n < 256
    first bytes n rest small e = let all : IsBytes (n ∷ rest) = subst IsBytes e small in all 0

few_255 : (n k : ℕ) → n < 256 → k ≡ n → nat_le k 255 ≡ true
few_255 n k lt e = grind (arith, nat_tests)

few_65535 : (n k : ℕ) → n < 2 ^ 16 → k ≡ n → nat_le k 65535 ≡ true
few_65535 n k lt e = grind (arith, nat_tests)

few_32 : (n k : ℕ) → n < 2 ^ 32 → k ≡ n → nat_lt k 4294967296 ≡ true
few_32 n k lt e = grind (arith, nat_tests)

-- a count in four bytes, and so many things
list_found : {A : Type 0} (one : List ℕ → Reading A) (spell : A → List ℕ) (good : A → Bool)
    → ((bytes : List ℕ) → IsBytes bytes → Holds (one bytes) (λ x rest. Takes bytes (spell x) rest × (good x ≡ true)))
    → (bytes : List ℕ) → IsBytes bytes → Holds (number_at w32 bytes >>= λ n. each_at one n.0 n.1) (λ xs rest. Takes bytes (list_spelling spell xs) rest × (are_spelled good xs ≡ true))
unfolding list_spelling
list_found {A} one spell good h bytes small =
    then_holds _ _ (fits_32 bytes small) (λ n r1 p.
    weaker _ (each_found {S = Unit {0}} (λ x. tt) (λ before. one) spell (λ before. good) (λ before bytes small. h bytes small) tt n r1 p.0.rest_fits) (λ xs rest q. (
      subst (λ k. Takes bytes (bytes_32 k ++ flat_map spell xs) rest) (sym q.1) (takes_then bytes (bytes_32 n) r1 (flat_map spell xs) rest p.0 q.0),
      and_true _ _ (few_32 n (length xs) p.1 q.1) (all_chained good xs q.2),
    )))

-- the same of things whose numbers rise
numbered_found : {A : Type 0} (number : A → ℕ) (one : Option ℕ → List ℕ → Reading A) (spell : A → List ℕ) (good : A → Bool)
    → ((before : Option ℕ) (bytes : List ℕ) → IsBytes bytes → Holds (one before bytes) (λ x rest. Takes bytes (spell x) rest × (numbered number good before x ≡ true)))
    → (bytes : List ℕ) → IsBytes bytes
    → Holds (number_at w32 bytes >>= λ n. each_numbered_at number one n.0 n.1) (λ xs rest. Takes bytes (list_spelling spell xs) rest × (are_spelled good xs ≡ true) × (rise (map number xs) ≡ true))
unfolding list_spelling
numbered_found {A} number one spell good h bytes small =
    then_holds _ _ (fits_32 bytes small) (λ n r1 p.
    weaker _ (each_found (λ x. Some (number x)) one spell (numbered number good) h None n r1 p.0.rest_fits) (λ xs rest q.
    let all = numbered_chained number good None xs q.2 in (
      subst (λ k. Takes bytes (bytes_32 k ++ flat_map spell xs) rest) (sym q.1) (takes_then bytes (bytes_32 n) r1 (flat_map spell xs) rest p.0 q.0),
      and_true _ _ (few_32 n (length xs) p.1 q.1) all.each,
      all.rises,
    )))

-- ---- messages that wait

rising_found : (before : Option ℕ) (bytes : List ℕ) → IsBytes bytes → Holds (rising_at before bytes) (λ n rest. Takes bytes (bytes_64 n) rest × (is_above before n ≡ true))
unfolding rising_at
rising_found before bytes small =
    then_holds _ _ (found_64 bytes small) (λ n rest p.
    if_holds (is_above before n) _ _ _ (λ is. done_holds n rest _ (p, is)) (λ other. wrong_holds bytes _))

made_above_found : (before : Option ℕ) (bytes : List ℕ) → IsBytes bytes
    → Holds (made_above_at before bytes) (λ m rest. Takes bytes (made_spelling m.0 m.1) rest × (name_is_spelled m.0 ≡ true) × (is_above before m.1 ≡ true))
unfolding made_above_at
made_above_found before bytes small =
    then_holds _ _ (name_found bytes small) (λ maker r1 p.
    then_holds _ _ (rising_found before r1 p.0.rest_fits) (λ serial rest q.
    done_holds (maker, serial) rest _ (takes_then bytes (name_spelling maker) r1 (bytes_64 serial) rest p.0 q.0, p.1, q.1)))

-- by the byte that says whether it is an actor
target_by : (is_actor : Bool) (bytes rest : List ℕ) → Takes bytes ((if is_actor then 1 else 0) ∷ []) rest
    → Holds (if is_actor then (name_at rest >>= λ n. Ok (target.Actor n.0, n.1)) else Ok (target.Output, rest)) (λ t left. Takes bytes (target_spelling t) left × (target_is_spelled t ≡ true))
unfolding target_spelling target_is_spelled
target_by true bytes rest p =
    then_holds _ _ (name_found rest p.rest_fits) (λ n left q.
    done_holds (target.Actor n) left _ (takes_then bytes (1 ∷ []) rest (name_spelling n) left p q.0, q.1))
target_by false bytes rest p = done_holds target.Output rest _ (p, refl)

target_found : (bytes : List ℕ) → IsBytes bytes → Holds (target_at bytes) (λ t rest. Takes bytes (target_spelling t) rest × (target_is_spelled t ≡ true))
unfolding target_at
target_found bytes small = then_holds _ _ (bool_found bytes small) (λ is_actor rest p. target_by is_actor bytes rest p)

piece_by : (is_token : Bool) (bytes rest : List ℕ) → Takes bytes ((if is_token then 1 else 0) ∷ []) rest
    → Holds (if is_token then (number_at w64 rest >>= λ n. Ok (Token n.0, n.1)) else (value_at rest >>= λ v. Ok (Known v.0, v.1))) (λ x left. Takes bytes (piece_spelling x) left × (piece_is_spelled x ≡ true))
unfolding piece_spelling piece_is_spelled
piece_by true bytes rest p =
    then_holds _ _ (found_64 rest p.rest_fits) (λ n left q.
    done_holds (Token n) left _ (takes_then bytes (1 ∷ []) rest (bytes_64 n) left p q, refl))
piece_by false bytes rest p =
    then_holds _ _ (value_found rest p.rest_fits) (λ v left q.
    done_holds (Known v) left _ (takes_then bytes (0 ∷ []) rest (spelling v) left p q.0, q.1))

piece_found : (bytes : List ℕ) → IsBytes bytes → Holds (piece_at bytes) (λ x rest. Takes bytes (piece_spelling x) rest × (piece_is_spelled x ≡ true))
unfolding piece_at
piece_found bytes small = then_holds _ _ (bool_found bytes small) (λ is_token rest p. piece_by is_token bytes rest p)

pieces_found : (bytes : List ℕ) → IsBytes bytes
    → Holds (pieces_at bytes) (λ xs rest. Takes bytes (pieces_spelling xs) rest × (nat_le (length xs) 255 ≡ true) × (list_all piece_is_spelled xs ≡ true))
unfolding pieces_at pieces_spelling
pieces_found bytes small =
    then_holds _ _ (byte_fits bytes small) (λ n r1 p.
    weaker _ (each_found {S = Unit {0}} (λ x. tt) (λ before. piece_at) piece_spelling (λ before. piece_is_spelled) (λ before bytes small. piece_found bytes small) tt n r1 p.0.rest_fits) (λ xs rest q. (
      subst (λ k. Takes bytes (k ∷ flat_map piece_spelling xs) rest) (sym q.1) (takes_then bytes (n ∷ []) r1 (flat_map piece_spelling xs) rest p.0 q.0),
      few_255 n (length xs) p.1 q.1,
      all_chained piece_is_spelled xs q.2,
    )))

numbers_found : (bytes : List ℕ) → IsBytes bytes → Holds (numbers_at bytes) (λ ns rest. Takes bytes (numbers_spelling ns) rest × (nat_le (length ns) 65535 ≡ true))
unfolding numbers_at numbers_spelling
numbers_found bytes small =
    then_holds _ _ (fits_16 bytes small) (λ n r1 p.
    weaker _ (each_found {S = Unit {0}} (λ x. tt) (λ before. number_at w64) bytes_64 (λ before x. true) (λ before bytes small. weaker _ (found_64 bytes small) (λ x rest q. (q, refl))) tt n r1 p.0.rest_fits) (λ ns rest q. (
      subst (λ k. Takes bytes (bytes_16 k ++ flat_map bytes_64 ns) rest) (sym q.1) (takes_then bytes (bytes_16 n) r1 (flat_map bytes_64 ns) rest p.0 q.0),
      few_65535 n (length ns) p.1 q.1,
    )))

-- the last step of reading a message
waiting_holds : (bytes rest : List ℕ) (m : Message) (P : Message → List ℕ → Type 0) → (is_waiting m ≡ true → P m rest) → Holds (if_waiting bytes m rest) P
waiting_holds bytes rest m P h = if_holds (is_ready m) _ _ P (λ ready. wrong_holds bytes P) (λ waits. done_holds m rest P (h (ap not waits)))

message_found : (before : Option ℕ) (bytes : List ℕ) → IsBytes bytes
    → Holds (message_at before bytes) (λ m rest. Takes bytes (message_spelling m) rest × (numbered (λ m. m.serial) message_is_spelled before m ≡ true))
unfolding message_at message_spelling message_is_spelled
message_found before bytes small =
    then_holds _ _ (made_above_found before bytes small) (λ made r1 a.
    then_holds _ _ (target_found r1 a.0.rest_fits) (λ to r2 b.
    then_holds _ _ (handler_found r2 b.0.rest_fits) (λ code r3 c.
    then_holds _ _ (pieces_found r3 c.rest_fits) (λ args r4 d.
    then_holds _ _ (numbers_found r4 d.0.rest_fits) (λ after r5 e.
    then_holds _ _ (found_32 r5 e.0.rest_fits) (λ delay r6 f.
    then_holds _ _ (reply_found r6 f.rest_fits) (λ reply rest g.
    waiting_holds bytes rest (message_of made to code args after delay reply) _ (λ waits.
    let w7 : List ℕ = reply_spelling reply in
    let w6 : List ℕ = bytes_32 delay ++ w7 in
    let w5 : List ℕ = numbers_spelling after ++ w6 in
    let w4 : List ℕ = pieces_spelling args ++ w5 in
    let w3 : List ℕ = handler_spelling code.0 code.1 ++ w4 in
    let w2 : List ℕ = target_spelling to ++ w3 in
    let t6 = takes_then r5 (bytes_32 delay) r6 w7 rest f g.0 in
    let t5 = takes_then r4 (numbers_spelling after) r5 w6 rest e.0 t6 in
    let t4 = takes_then r3 (pieces_spelling args) r4 w5 rest d.0 t5 in
    let t3 = takes_then r2 (handler_spelling code.0 code.1) r3 w4 rest c t4 in
    let t2 = takes_then r1 (target_spelling to) r2 w3 rest b.0 t3 in (
      takes_then bytes (made_spelling made.0 made.1) r1 w2 rest a.0 t2,
      and_true _ _ a.2 (and_true _ _ a.1 (and_true _ _ b.1 (and_true _ _ d.1 (and_true _ _ d.2 (and_true _ _ e.1 (and_true _ _ g.1 waits)))))),
    )))))))))

pub messages_found : (bytes : List ℕ) → IsBytes bytes
    → Holds (messages_at bytes) (λ ms rest. Takes bytes (list_spelling message_spelling ms) rest × (are_spelled message_is_spelled ms ≡ true) × (rise (message_numbers ms) ≡ true))
unfolding messages_at
messages_found bytes small = numbered_found (λ m. m.serial) message_at message_spelling message_is_spelled message_found bytes small

-- ---- joins

slot_by : (is_filled : Bool) (bytes rest : List ℕ) → Takes bytes ((if is_filled then 1 else 0) ∷ []) rest
    → Holds (if is_filled then (value_at rest >>= λ v. Ok (Some v.0, v.1)) else Ok (None, rest)) (λ s left. Takes bytes (slot_spelling s) left × (slot_is_spelled s ≡ true))
unfolding slot_spelling slot_is_spelled
slot_by true bytes rest p =
    then_holds _ _ (value_found rest p.rest_fits) (λ v left q.
    done_holds (Some v) left _ (takes_then bytes (1 ∷ []) rest (spelling v) left p q.0, q.1))
slot_by false bytes rest p = done_holds None rest _ (p, refl)

slot_found : (bytes : List ℕ) → IsBytes bytes → Holds (slot_at bytes) (λ s rest. Takes bytes (slot_spelling s) rest × (slot_is_spelled s ≡ true))
unfolding slot_at
slot_found bytes small = then_holds _ _ (bool_found bytes small) (λ is_filled rest p. slot_by is_filled bytes rest p)

slots_found : (bytes : List ℕ) → IsBytes bytes → Holds (slots_at bytes) (λ ss rest. Takes bytes (list_spelling slot_spelling ss) rest × (are_spelled slot_is_spelled ss ≡ true))
unfolding slots_at
slots_found bytes small = list_found slot_at slot_spelling slot_is_spelled slot_found bytes small

open_holds : (bytes rest : List ℕ) (j : Join) (P : Join → List ℕ → Type 0) → (is_open j ≡ true → P j rest) → Holds (if_open bytes j rest) P
open_holds bytes rest j P h = if_holds (is_full j) _ _ P (λ full. wrong_holds bytes P) (λ lacks. done_holds j rest P (h (ap not lacks)))

join_found : (before : Option ℕ) (bytes : List ℕ) → IsBytes bytes
    → Holds (join_at before bytes) (λ j rest. Takes bytes (join_spelling j) rest × (numbered (λ j. j.number) join_is_spelled before j ≡ true))
unfolding join_at join_spelling join_is_spelled
join_found before bytes small =
    then_holds _ _ (rising_found before bytes small) (λ number r1 a.
    then_holds _ _ (bool_found r1 a.0.rest_fits) (λ void r2 b.
    then_holds _ _ (slots_found r2 b.rest_fits) (λ slots r3 c.
    then_holds _ _ (reply_found r3 c.0.rest_fits) (λ reply rest d.
    open_holds bytes rest (join_of number void slots reply) _ (λ lacks.
    let flag : List ℕ = (if void then 1 else 0) ∷ [] in
    let w3 : List ℕ = list_spelling slot_spelling slots ++ reply_spelling reply in
    let t3 = takes_then r2 (list_spelling slot_spelling slots) r3 (reply_spelling reply) rest c.0 d.0 in
    let t2 = takes_then r1 flag r2 w3 rest b t3 in (
      takes_then bytes (bytes_64 number) r1 (flag ++ w3) rest a.0 t2,
      and_true _ _ a.1 (and_true _ _ c.1 (and_true _ _ d.1 lacks)),
    ))))))

pub joins_found : (bytes : List ℕ) → IsBytes bytes
    → Holds (joins_at bytes) (λ js rest. Takes bytes (list_spelling join_spelling js) rest × (are_spelled join_is_spelled js ≡ true) × (rise (join_numbers js) ≡ true))
unfolding joins_at
joins_found bytes small = numbered_found (λ j. j.number) join_at join_spelling join_is_spelled join_found bytes small

-- ---- the actor

state_found : (bytes : List ℕ) → IsBytes bytes → Holds (state_at bytes) (λ r rest. Takes bytes (state_spelling r) rest × (state_is_spelled r ≡ true))
unfolding state_at state_spelling state_is_spelled name_is_spelled
state_found bytes small =
    then_holds _ _ (uan_found bytes small) (λ n r1 a.
    then_holds _ _ (found_64 r1 a.0.rest_fits) (λ moves r2 b.
    then_holds _ _ (found_16 r2 b.rest_fits) (λ behavior r3 c.
    then_holds _ _ (values_found 255 r3 c.rest_fits) (λ fields r4 d.
    then_holds _ _ (found_64 r4 d.0.rest_fits) (λ serial rest e.
    let w5 : List ℕ = bytes_64 serial in
    let w4 : List ℕ = values_spelling fields ++ w5 in
    let w3 : List ℕ = bytes_16 behavior ++ w4 in
    let w2 : List ℕ = bytes_64 moves ++ w3 in
    let t4 = takes_then r3 (values_spelling fields) r4 w5 rest d.0 e in
    let t3 = takes_then r2 (bytes_16 behavior) r3 w4 rest c t4 in
    let t2 = takes_then r1 (bytes_64 moves) r2 w3 rest b t3 in
    done_holds (state_of n moves behavior fields serial) rest _ (
      takes_then bytes (uan_spelling n) r1 w2 rest a.0 t2,
      and_true _ _ refl (and_true _ _ a.1 d.1),
    ))))))

book_found : (bytes : List ℕ) → IsBytes bytes → Holds (book_at bytes) (λ b rest. Takes bytes (book_spelling b) rest × (book_is_spelled b ≡ true))
unfolding book_at book_spelling book_is_spelled
book_found bytes small =
    then_holds _ _ (messages_found bytes small) (λ messages r1 p.
    then_holds _ _ (joins_found r1 p.0.rest_fits) (λ joins rest q.
    done_holds (book_of messages joins) rest _ (
      takes_then bytes (list_spelling message_spelling messages) r1 (list_spelling join_spelling joins) rest p.0 q.0,
      and_true _ _ (and_true _ _ p.1 p.2) (and_true _ _ q.1 q.2),
    )))

mailbox_found : (bytes : List ℕ) → IsBytes bytes → Holds (mailbox_at bytes) (λ ms rest. Takes bytes (list_spelling call_spelling ms) rest × (are_spelled call_is_spelled ms ≡ true))
unfolding mailbox_at
mailbox_found bytes small = list_found call_at call_spelling call_is_spelled call_found bytes small

-- what was read of an actor
abbrev IsActor : List ℕ → Resident → List ℕ → Type 0
IsActor bytes r rest = Takes bytes (packed_actor r) rest × (is_packable r ≡ true)

-- the book and the mailbox change nothing of the rest
same_state : (r : Resident) (b : Book) (ms : List Message) → (state_spelling (with_book_and_mailbox r b ms) ≡ state_spelling r) × (state_is_spelled (with_book_and_mailbox r b ms) ≡ state_is_spelled r)
unfolding state_spelling state_is_spelled
same_state r b ms = (refl, refl)

actor_found : (bytes : List ℕ) → IsBytes bytes → Holds (actor_at bytes) (IsActor bytes)
unfolding actor_at packed_actor is_packable
actor_found bytes small =
    then_holds _ _ (state_found bytes small) (λ state r1 a.
    then_holds _ _ (book_found r1 a.0.rest_fits) (λ book r2 b.
    then_holds _ _ (mailbox_found r2 b.0.rest_fits) (λ mailbox rest c.
    let same = same_state state book mailbox in
    let w2 : List ℕ = book_spelling book ++ list_spelling call_spelling mailbox in
    let t2 = takes_then r1 (book_spelling book) r2 (list_spelling call_spelling mailbox) rest b.0 c.0 in
    done_holds (with_book_and_mailbox state book mailbox) rest _ (
      subst (λ (z : List ℕ). Takes bytes (z ++ w2) rest) (sym same.0) (takes_then bytes (state_spelling state) r1 w2 rest a.0 t2),
      and_true _ _ (same.1 ∙ a.1) (and_true _ _ b.1 c.1),
    ))))

end_holds : (r : Resident) (rest : List ℕ) (P : Resident → List ℕ → Type 0) → P r rest → Holds (if_none_left r rest) (λ x left. P x left × (left ≡ []))
end_holds r [] P p = done_holds r [] _ (p, refl)
end_holds r (b ∷ rest) P p = wrong_holds (b ∷ rest) _

whole_found : (bytes : List ℕ) → IsBytes bytes → Holds (whole_actor_at bytes) (λ r rest. IsActor bytes r rest × (rest ≡ []))
unfolding whole_actor_at
whole_found bytes small = then_holds _ _ (actor_found bytes small) (λ r rest p. end_holds r rest (IsActor bytes) p)

read_is : (bytes : List ℕ) (read : Reading Resident) (r : Resident) → with_offset bytes read ≡ Ok r → (rest : List ℕ) × (read ≡ Ok (r, rest))
read_is bytes (Ok x) r is =
    let same : x.0 ≡ r = cc in
    (x.1, ap (λ y. Ok (y, x.1)) same)
read_is bytes (Err f) r is = absurd cc

pub unpacked_packed : UnpackedActorsArePacked
unfolding unpacked_actor
unpacked_packed bytes r small is =
    let a = read_is bytes (whole_actor_at bytes) r is in
    let b = (whole_found bytes small).fact (r, a.0) a.1 in
    (b.0.1, b.0.0.parts ∙ ap (λ (z : List ℕ). packed_actor r ++ z) b.1 ∙ append-nil (packed_actor r))
