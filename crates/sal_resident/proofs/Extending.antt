-- What is read of an actor at the front of some bytes, or is wrong there, stays so whatever follows.
use Rattle.std.proofs.Common.{◌≡◌, ℕ, zero, suc, Bool, true, false, List, [], ◌∷◌, ◌++◌, Option, Some, None, Ok, refl}
use Rattle.std.specs.Prelude.{if◌then◌else◌}
use Rattle.std.specs.Int.{w16, w32, w64}
use Rattle.sal_mail.specs.declared.message.Piece.TheVariants.{Known, Token}
use Rattle.sal_mail.specs.declared.message.Target.TheVariants as target
use Rattle.sal_mail.specs.declared.message.Message.{Message}
use Rattle.sal_mail.specs.declared.message.Join.{Join}
use Rattle.sal_mail.specs.Message.{is_ready, is_full}
use Rattle.sal_envelope.specs.Decoding.{Reading, ◌>>=◌, number_at, call_at}
use Rattle.sal_envelope.proofs.Extending.{Extends, then_extends, done_extends, wrong_extends, if_extends, byte_extends, number_extends, bool_extends, name_extends, value_extends, uan_extends, values_extends, reply_extends, handler_extends, call_extends}
use Rattle.sal_resident.specs.Unpacking.{each_from, each_at, each_numbered_at, is_above, rising_at, made_above_at, target_at, piece_at, pieces_at, numbers_at, if_waiting, message_of, message_at, messages_at, slot_at, slots_at, if_open, join_of, join_at, joins_at, state_of, state_at, book_of, book_at, mailbox_at, with_book_and_mailbox, actor_at}

-- ---- things one after the other

module _ {S A : Type 0} (more : List ℕ) (keep : A → S) (one : S → List ℕ → Reading A) where
  each_extends : ((before : S) (bytes : List ℕ) → Extends more (one before bytes) (one before (bytes ++ more)))
      → (before : S) (n : ℕ) (bytes : List ℕ) → Extends more (each_from keep one before n bytes) (each_from keep one before n (bytes ++ more))
  each_extends h before zero bytes = done_extends more [] bytes
  each_extends h before (suc n) bytes =
      then_extends more _ _ (h before bytes) (λ x r1.
      then_extends more _ _ (each_extends h (keep x) n r1) (λ xs rest. done_extends more (x ∷ xs) rest))

list_extends : {A : Type 0} (more : List ℕ) (one : List ℕ → Reading A) → ((bytes : List ℕ) → Extends more (one bytes) (one (bytes ++ more)))
    → (bytes : List ℕ) → Extends more (number_at w32 bytes >>= λ n. each_at one n.0 n.1) (number_at w32 (bytes ++ more) >>= λ n. each_at one n.0 n.1)
list_extends more one h bytes =
    then_extends more _ _ (number_extends more w32 bytes) (λ n rest. each_extends {S = Unit {0}} more (λ x. tt) (λ before. one) (λ before. h) tt n rest)

-- ---- messages that wait

rising_extends : (more : List ℕ) (before : Option ℕ) (bytes : List ℕ) → Extends more (rising_at before bytes) (rising_at before (bytes ++ more))
unfolding rising_at
rising_extends more before bytes =
    then_extends more _ _ (number_extends more w64 bytes) (λ n rest. if_extends more (is_above before n) (done_extends more n rest) (wrong_extends more bytes))

made_above_extends : (more : List ℕ) (before : Option ℕ) (bytes : List ℕ) → Extends more (made_above_at before bytes) (made_above_at before (bytes ++ more))
unfolding made_above_at
made_above_extends more before bytes =
    then_extends more _ _ (name_extends more bytes) (λ maker r1.
    then_extends more _ _ (rising_extends more before r1) (λ serial rest. done_extends more (maker, serial) rest))

target_extends : (more bytes : List ℕ) → Extends more (target_at bytes) (target_at (bytes ++ more))
unfolding target_at
target_extends more bytes =
    then_extends more _ _ (bool_extends more bytes) (λ is_actor rest.
    if_extends more is_actor (then_extends more _ _ (name_extends more rest) (λ n left. done_extends more (target.Actor n) left)) (done_extends more target.Output rest))

piece_extends : (more bytes : List ℕ) → Extends more (piece_at bytes) (piece_at (bytes ++ more))
unfolding piece_at
piece_extends more bytes =
    then_extends more _ _ (bool_extends more bytes) (λ is_token rest.
    if_extends more is_token (then_extends more _ _ (number_extends more w64 rest) (λ n left. done_extends more (Token n) left))
    (then_extends more _ _ (value_extends more rest) (λ v left. done_extends more (Known v) left)))

pieces_extends : (more bytes : List ℕ) → Extends more (pieces_at bytes) (pieces_at (bytes ++ more))
unfolding pieces_at
pieces_extends more bytes =
    then_extends more _ _ (byte_extends more bytes) (λ n rest. each_extends {S = Unit {0}} more (λ x. tt) (λ before. piece_at) (λ before. piece_extends more) tt n rest)

numbers_extends : (more bytes : List ℕ) → Extends more (numbers_at bytes) (numbers_at (bytes ++ more))
unfolding numbers_at
numbers_extends more bytes =
    then_extends more _ _ (number_extends more w16 bytes) (λ n rest. each_extends {S = Unit {0}} more (λ x. tt) (λ before. number_at w64) (λ before. number_extends more w64) tt n rest)

message_extends : (more : List ℕ) (before : Option ℕ) (bytes : List ℕ) → Extends more (message_at before bytes) (message_at before (bytes ++ more))
unfolding message_at
message_extends more before bytes =
    then_extends more _ _ (made_above_extends more before bytes) (λ made r1.
    then_extends more _ _ (target_extends more r1) (λ to r2.
    then_extends more _ _ (handler_extends more r2) (λ code r3.
    then_extends more _ _ (pieces_extends more r3) (λ args r4.
    then_extends more _ _ (numbers_extends more r4) (λ after r5.
    then_extends more _ _ (number_extends more w32 r5) (λ delay r6.
    then_extends more _ _ (reply_extends more r6) (λ reply rest.
    let m : Message = message_of made to code args after delay reply in
    if_extends more (is_ready m) (wrong_extends more bytes) (done_extends more m rest))))))))

messages_extends : (more bytes : List ℕ) → Extends more (messages_at bytes) (messages_at (bytes ++ more))
unfolding messages_at
messages_extends more bytes =
    then_extends more _ _ (number_extends more w32 bytes) (λ n rest. each_extends more (λ (m : Message). Some m.serial) message_at (message_extends more) None n rest)

-- ---- joins

slot_extends : (more bytes : List ℕ) → Extends more (slot_at bytes) (slot_at (bytes ++ more))
unfolding slot_at
slot_extends more bytes =
    then_extends more _ _ (bool_extends more bytes) (λ is_filled rest.
    if_extends more is_filled (then_extends more _ _ (value_extends more rest) (λ v left. done_extends more (Some v) left)) (done_extends more None rest))

slots_extends : (more bytes : List ℕ) → Extends more (slots_at bytes) (slots_at (bytes ++ more))
unfolding slots_at
slots_extends more bytes = list_extends more slot_at (slot_extends more) bytes

join_extends : (more : List ℕ) (before : Option ℕ) (bytes : List ℕ) → Extends more (join_at before bytes) (join_at before (bytes ++ more))
unfolding join_at
join_extends more before bytes =
    then_extends more _ _ (rising_extends more before bytes) (λ number r1.
    then_extends more _ _ (bool_extends more r1) (λ void r2.
    then_extends more _ _ (slots_extends more r2) (λ slots r3.
    then_extends more _ _ (reply_extends more r3) (λ reply rest.
    let j : Join = join_of number void slots reply in
    if_extends more (is_full j) (wrong_extends more bytes) (done_extends more j rest)))))

joins_extends : (more bytes : List ℕ) → Extends more (joins_at bytes) (joins_at (bytes ++ more))
unfolding joins_at
joins_extends more bytes =
    then_extends more _ _ (number_extends more w32 bytes) (λ n rest. each_extends more (λ (j : Join). Some j.number) join_at (join_extends more) None n rest)

-- ---- the actor

state_extends : (more bytes : List ℕ) → Extends more (state_at bytes) (state_at (bytes ++ more))
unfolding state_at
state_extends more bytes =
    then_extends more _ _ (uan_extends more bytes) (λ n r1.
    then_extends more _ _ (number_extends more w64 r1) (λ moves r2.
    then_extends more _ _ (number_extends more w16 r2) (λ behavior r3.
    then_extends more _ _ (values_extends more 255 r3) (λ fields r4.
    then_extends more _ _ (number_extends more w64 r4) (λ serial rest. done_extends more (state_of n moves behavior fields serial) rest)))))

book_extends : (more bytes : List ℕ) → Extends more (book_at bytes) (book_at (bytes ++ more))
unfolding book_at
book_extends more bytes =
    then_extends more _ _ (messages_extends more bytes) (λ messages r1.
    then_extends more _ _ (joins_extends more r1) (λ joins rest. done_extends more (book_of messages joins) rest))

mailbox_extends : (more bytes : List ℕ) → Extends more (mailbox_at bytes) (mailbox_at (bytes ++ more))
unfolding mailbox_at
mailbox_extends more bytes = list_extends more call_at (call_extends more) bytes

pub actor_extends : (more bytes : List ℕ) → Extends more (actor_at bytes) (actor_at (bytes ++ more))
unfolding actor_at
actor_extends more bytes =
    then_extends more _ _ (state_extends more bytes) (λ state r1.
    then_extends more _ _ (book_extends more r1) (λ book r2.
    then_extends more _ _ (mailbox_extends more r2) (λ mailbox rest. done_extends more (with_book_and_mailbox state book mailbox) rest)))
