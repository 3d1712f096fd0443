-- Actors that are packed are unpacked.
use Rattle.std.proofs.Common.{◌≡◌, ℕ, ◌<◌, ◌≤◌, Bool, true, false, ◌&&◌, List, [], ◌∷◌, ◌++◌, length, map, Option, Some, None, Ok, refl, sym, ap, ◌∙◌, append_assoc, append-nil, arith}
use Rattle.std.specs.Prelude.{if◌then◌else◌, not, nat_lt, nat_le}
use Rattle.std.specs.Int.{w16, w32, w64}
use Rattle.std.specs.List.{list_all, flat_map}
use Rattle.std.proofs.lemmas.Bool.{and_parts}
use Rattle.std.proofs.lemmas.Bool.Decides.{nat_tests}
use Rattle.sal_value.specs.declared.name.Name.{Name}
use Rattle.sal_value.specs.declared.name.Name.TheVariants as name
use Rattle.sal_value.specs.declared.name.Uan.{Uan}
use Rattle.sal_value.specs.declared.value.Value.{Value}
use Rattle.sal_value.specs.Names.{is_uan}
use Rattle.sal_value.specs.Spelling.{name_spelling, name_is_spelled, spelling, is_spelled}
use Rattle.sal_value.specs.Coding.{name_in_range, in_range}
use Rattle.sal_mail.specs.declared.message.Piece.{Piece}
use Rattle.sal_mail.specs.declared.message.Piece.TheVariants.{Known, Token}
use Rattle.sal_mail.specs.declared.message.Target.{Target}
use Rattle.sal_mail.specs.declared.message.Target.TheVariants as target
use Rattle.sal_mail.specs.declared.message.Reply.{Reply}
use Rattle.sal_mail.specs.declared.message.Message.{Message}
use Rattle.sal_mail.specs.declared.message.Join.{Join}
use Rattle.sal_mail.specs.Message.{is_ready, is_full}
use Rattle.sal_envelope.specs.Spelling.{bytes_16, bytes_32, bytes_64, uan_spelling, values_spelling, made_spelling, handler_spelling, reply_spelling, reply_is_spelled, call_spelling, call_is_spelled}
use Rattle.sal_envelope.specs.Decoding.{Reading, ◌>>=◌, wrong, byte_at, number_at, bool_at, name_at, value_at, uan_at, values_at, reply_at, handler_at, call_at, if_none_left, with_offset}
use Rattle.sal_envelope.specs.Coding.{is_u16, is_u32, is_u64, target_in_range, reply_in_range, piece_in_range, message_in_range}
use Rattle.sal_envelope.proofs.Again.{again_16, again_32, again_64, name_again, value_again, uan_again, values_again, reply_again, handler_again}
use Rattle.sal_envelope.proofs.EnvelopesAgain.{call_again, universal}
use Rattle.sal_envelope.proofs.Found.{and_true}
use Rattle.sal_book.specs.Book.{Book, message_numbers, join_numbers, rise, is_waiting, is_open}
use Rattle.sal_resident.specs.declared.resident.Resident.{Resident}
use Rattle.sal_resident.specs.Packing.{target_spelling, target_is_spelled, piece_spelling, piece_is_spelled, pieces_spelling, numbers_spelling, message_spelling, message_is_spelled, slot_spelling, slot_is_spelled, list_spelling, are_spelled, join_spelling, join_is_spelled, state_spelling, state_is_spelled, book_spelling, book_is_spelled, packed_actor, is_packable}
use Rattle.sal_resident.specs.Unpacking.{each_from, each_at, each_numbered_at, is_above, rising_at, made_above_at, target_at, piece_at, pieces_at, numbers_at, if_waiting, message_of, message_at, messages_at, slot_at, slots_at, if_open, join_of, join_at, joins_at, state_of, state_at, book_of, book_at, mailbox_at, with_book_and_mailbox, actor_at, whole_actor_at, unpacked_actor}
use Rattle.sal_resident.specs.Coding.{waiting_in_range, slot_in_range, join_in_range, state_in_range, book_in_range, resident_in_range, PackedActorsAreUnpacked}
use Rattle.sal_resident.proofs.Found.{are_chained, numbered}
use Rattle.sal_resident.proofs.Parts.{ListGood, MessageGood, message_good, JoinGood, join_good, StateGood, state_good, BookGood, book_good, ActorGood, actor_good}

-- ---- things one after the other

module _ {S A : Type 0} (keep : A → S) (one : S → List ℕ → Reading A) (spell : A → List ℕ) (good : S → A → Bool) where
  pub each_again : ((before : S) (x : A) (rest : List ℕ) → good before x ≡ true → one before (spell x ++ rest) ≡ Ok (x, rest))
      → (before : S) (xs : List A) (rest : List ℕ) → are_chained keep good before xs ≡ true → each_from keep one before (length xs) (flat_map spell xs ++ rest) ≡ Ok (xs, rest)
  each_again h before [] rest g = refl
  each_again h before (x ∷ xs) rest g =
      let p = and_parts (good before x) (are_chained keep good (keep x) xs) g in
      ap (λ bytes. one before bytes >>= λ first. each_from keep one (keep first.0) (length xs) first.1 >>= λ others. Ok (first.0 ∷ others.0, others.1)) (append_assoc (spell x) (flat_map spell xs) rest)
      ∙ ap (λ (r : Reading A). r >>= λ first. each_from keep one (keep first.0) (length xs) first.1 >>= λ others. Ok (first.0 ∷ others.0, others.1)) (h before x (flat_map spell xs ++ rest) p.0)
      ∙ ap (λ (r : Reading (List A)). r >>= λ others. Ok (x ∷ others.0, others.1)) (each_again h (keep x) xs rest p.1)

-- what is in range and has a spelling
abbrev both : {A : Type 0} → (A → Bool) → (A → Bool) → A → Bool
both f g x = f x && g x

all_chained : {A : Type 0} (f g : A → Bool) (xs : List A) → list_all f xs ≡ true → list_all g xs ≡ true → are_chained {S = Unit {0}} (λ x. tt) (λ before. both f g) tt xs ≡ true
all_chained f g [] h k = refl
all_chained f g (x ∷ xs) h k =
    let p = and_parts (f x) (list_all f xs) h in
    let q = and_parts (g x) (list_all g xs) k in
    and_true _ _ (and_true _ _ p.0 q.0) (all_chained f g xs p.1 q.1)

numbered_chained : {A : Type 0} (number : A → ℕ) (f g : A → Bool) (before : Option ℕ) (xs : List A) → list_all f xs ≡ true → list_all g xs ≡ true → rise (map number xs) ≡ true → list_all (is_above before) (map number xs) ≡ true
    → are_chained (λ x. Some (number x)) (numbered number (both f g)) before xs ≡ true
numbered_chained number f g before [] h k r a = refl
numbered_chained number f g before (x ∷ xs) h k r a =
    let p = and_parts (f x) (list_all f xs) h in
    let q = and_parts (g x) (list_all g xs) k in
    let s = and_parts (list_all (nat_lt (number x)) (map number xs)) (rise (map number xs)) r in
    let t = and_parts (is_above before (number x)) (list_all (is_above before) (map number xs)) a in
    and_true _ _ (and_true _ _ t.0 (and_true _ _ p.0 q.0)) (numbered_chained number f g (Some (number x)) xs p.1 q.1 s.1 s.0)

all_above : (ns : List ℕ) → list_all (is_above None) ns ≡ true
all_above [] = refl
all_above (n ∷ ns) = all_above ns

short_16 : (n : ℕ) → n ≤ 65535 → is_u16 n ≡ true
short_16 n h = grind (arith, nat_tests)

short_32 : (n : ℕ) → n < 4294967296 → is_u32 n ≡ true
short_32 n h = grind (arith, nat_tests)

list_again : {A : Type 0} (one : List ℕ → Reading A) (spell : A → List ℕ) (f g : A → Bool)
    → ((x : A) (rest : List ℕ) → f x ≡ true → g x ≡ true → one (spell x ++ rest) ≡ Ok (x, rest))
    → (xs : List A) (rest : List ℕ) → list_all f xs ≡ true → ListGood g xs → (number_at w32 (list_spelling spell xs ++ rest) >>= λ n. each_at one n.0 n.1) ≡ Ok (xs, rest)
unfolding list_spelling
list_again {A} one spell f g h xs rest ranges s =
    ap (λ bytes. number_at w32 bytes >>= λ n. each_at one n.0 n.1) (append_assoc (bytes_32 (length xs)) (flat_map spell xs) rest)
    ∙ ap (λ (r : Reading ℕ). r >>= λ n. each_at one n.0 n.1) (again_32 (length xs) (flat_map spell xs ++ rest) (short_32 (length xs) s.few))
    ∙ each_again {S = Unit {0}} (λ x. tt) (λ before. one) spell (λ before. both f g) (λ before x more good. let p = and_parts (f x) (g x) good in h x more p.0 p.1) tt xs rest (all_chained f g xs ranges s.each)

numbered_again : {A : Type 0} (number : A → ℕ) (one : Option ℕ → List ℕ → Reading A) (spell : A → List ℕ) (f g : A → Bool)
    → ((before : Option ℕ) (x : A) (rest : List ℕ) → is_above before (number x) ≡ true → f x ≡ true → g x ≡ true → one before (spell x ++ rest) ≡ Ok (x, rest))
    → (xs : List A) (rest : List ℕ) → list_all f xs ≡ true → ListGood g xs → rise (map number xs) ≡ true
    → (number_at w32 (list_spelling spell xs ++ rest) >>= λ n. each_numbered_at number one n.0 n.1) ≡ Ok (xs, rest)
unfolding list_spelling
numbered_again {A} number one spell f g h xs rest ranges s rises =
    ap (λ bytes. number_at w32 bytes >>= λ n. each_numbered_at number one n.0 n.1) (append_assoc (bytes_32 (length xs)) (flat_map spell xs) rest)
    ∙ ap (λ (r : Reading ℕ). r >>= λ n. each_numbered_at number one n.0 n.1) (again_32 (length xs) (flat_map spell xs ++ rest) (short_32 (length xs) s.few))
    ∙ each_again (λ x. Some (number x)) one spell (numbered number (both f g)) (λ before x more good.
    let p = and_parts (is_above before (number x)) (both f g x) good in
    let q = and_parts (f x) (g x) p.1 in
    h before x more p.0 q.0 q.1) None xs rest (numbered_chained number f g None xs ranges s.each rises (all_above (map number xs)))

-- ---- messages that wait

rising_again : (before : Option ℕ) (n : ℕ) (rest : List ℕ) → is_above before n ≡ true → is_u64 n ≡ true → rising_at before (bytes_64 n ++ rest) ≡ Ok (n, rest)
unfolding rising_at
rising_again before n rest a r =
    ap (λ (x : Reading ℕ). x >>= λ k. if is_above before k.0 then Ok (k.0, k.1) else wrong (bytes_64 n ++ rest)) (again_64 n rest r)
    ∙ ap (λ b. if b then Ok (n, rest) else wrong (bytes_64 n ++ rest)) a

made_above_again : (before : Option ℕ) (maker : Name) (serial : ℕ) (rest : List ℕ) → name_in_range maker ≡ true → name_is_spelled maker ≡ true → is_above before serial ≡ true → is_u64 serial ≡ true
    → made_above_at before (made_spelling maker serial ++ rest) ≡ Ok ((maker, serial), rest)
unfolding made_above_at
made_above_again before maker serial rest r s a n =
    ap (λ bytes. name_at bytes >>= λ m. rising_at before m.1 >>= λ k. Ok ((m.0, k.0), k.1)) (append_assoc (name_spelling maker) (bytes_64 serial) rest)
    ∙ ap (λ (x : Reading Name). x >>= λ m. rising_at before m.1 >>= λ k. Ok ((m.0, k.0), k.1)) (name_again maker (bytes_64 serial ++ rest) r s)
    ∙ ap (λ (x : Reading ℕ). x >>= λ k. Ok ((maker, k.0), k.1)) (rising_again before serial rest a n)

target_again : (t : Target) (rest : List ℕ) → target_in_range t ≡ true → target_is_spelled t ≡ true → target_at (target_spelling t ++ rest) ≡ Ok (t, rest)
unfolding target_at bool_at target_spelling target_is_spelled
target_again target.Output rest r s = refl
target_again (target.Actor n) rest r s = ap (λ (x : Reading Name). x >>= λ m. Ok (target.Actor m.0, m.1)) (name_again n rest r s)

piece_again : (p : Piece) (rest : List ℕ) → piece_in_range p ≡ true → piece_is_spelled p ≡ true → piece_at (piece_spelling p ++ rest) ≡ Ok (p, rest)
unfolding piece_at bool_at piece_spelling piece_is_spelled
piece_again (Known v) rest r s = ap (λ (x : Reading Value). x >>= λ w. Ok (Known w.0, w.1)) (value_again v rest r s)
piece_again (Token n) rest r s = ap (λ (x : Reading ℕ). x >>= λ k. Ok (Token k.0, k.1)) (again_64 n rest r)

pieces_again : (ps : List Piece) (rest : List ℕ) → list_all piece_in_range ps ≡ true → list_all piece_is_spelled ps ≡ true → pieces_at (pieces_spelling ps ++ rest) ≡ Ok (ps, rest)
unfolding pieces_at pieces_spelling
pieces_again ps rest r s =
    each_again {S = Unit {0}} (λ x. tt) (λ before. piece_at) piece_spelling (λ before. both piece_in_range piece_is_spelled) (λ before x more good.
    let p = and_parts (piece_in_range x) (piece_is_spelled x) good in
    piece_again x more p.0 p.1) tt ps rest (all_chained piece_in_range piece_is_spelled ps r s)

all_true : (ns : List ℕ) → list_all (λ n. true) ns ≡ true
all_true [] = refl
all_true (n ∷ ns) = all_true ns

numbers_again : (ns : List ℕ) (rest : List ℕ) → length ns ≤ 65535 → list_all is_u64 ns ≡ true → numbers_at (numbers_spelling ns ++ rest) ≡ Ok (ns, rest)
unfolding numbers_at numbers_spelling
numbers_again ns rest few r =
    ap (λ bytes. number_at w16 bytes >>= λ n. each_at (number_at w64) n.0 n.1) (append_assoc (bytes_16 (length ns)) (flat_map bytes_64 ns) rest)
    ∙ ap (λ (x : Reading ℕ). x >>= λ n. each_at (number_at w64) n.0 n.1) (again_16 (length ns) (flat_map bytes_64 ns ++ rest) (short_16 (length ns) few))
    ∙ each_again {S = Unit {0}} (λ x. tt) (λ before. number_at w64) bytes_64 (λ before. both is_u64 (λ n. true)) (λ before x more good.
    again_64 x more (and_parts (is_u64 x) true good).0) tt ns rest (all_chained is_u64 (λ n. true) ns r (all_true ns))

not_true : (b : Bool) → not b ≡ true → b ≡ false
not_true true h = sym h
not_true false h = refl

record RangeGood (m : Message) : Type 0 where
  maker : name_in_range m.maker ≡ true
  serial : is_u64 m.serial ≡ true
  goes_to : target_in_range m.target ≡ true
  behavior : is_u16 m.behavior ≡ true
  handler : is_u16 m.handler ≡ true
  args : list_all piece_in_range m.args ≡ true
  after : list_all is_u64 m.after ≡ true
  delay : is_u32 m.delay ≡ true
  reply : reply_in_range m.reply ≡ true

range_good : (m : Message) → waiting_in_range m ≡ true → RangeGood m
range_good m h =
    let o = and_parts (message_in_range m) (list_all is_u64 m.after && is_u32 m.delay) h in
    let l = and_parts (list_all is_u64 m.after) (is_u32 m.delay) o.1 in
    let p = and_parts (name_in_range m.maker) (is_u64 m.serial && (target_in_range m.target && (is_u16 m.behavior && (is_u16 m.handler && (list_all piece_in_range m.args && reply_in_range m.reply))))) o.0 in
    let q = and_parts (is_u64 m.serial) (target_in_range m.target && (is_u16 m.behavior && (is_u16 m.handler && (list_all piece_in_range m.args && reply_in_range m.reply)))) p.1 in
    let t = and_parts (target_in_range m.target) (is_u16 m.behavior && (is_u16 m.handler && (list_all piece_in_range m.args && reply_in_range m.reply))) q.1 in
    let u = and_parts (is_u16 m.behavior) (is_u16 m.handler && (list_all piece_in_range m.args && reply_in_range m.reply)) t.1 in
    let v = and_parts (is_u16 m.handler) (list_all piece_in_range m.args && reply_in_range m.reply) u.1 in
    let w = and_parts (list_all piece_in_range m.args) (reply_in_range m.reply) v.1 in
    record { maker = p.0; serial = q.0; goes_to = t.0; behavior = u.0; handler = v.0; args = w.0; after = l.0; delay = l.1; reply = w.1 }

seven_more : (a b c d e f g rest : List ℕ) → (a ++ (b ++ (c ++ (d ++ (e ++ (f ++ g)))))) ++ rest ≡ a ++ (b ++ (c ++ (d ++ (e ++ (f ++ (g ++ rest))))))
seven_more a b c d e f g rest = simp append_assoc

message_again : (before : Option ℕ) (m : Message) (rest : List ℕ) → is_above before m.serial ≡ true → waiting_in_range m ≡ true → message_is_spelled m ≡ true → message_at before (message_spelling m ++ rest) ≡ Ok (m, rest)
unfolding message_at message_spelling
message_again before m rest above r s =
    let g = range_good m r in
    let h = message_good m s in
    let whole : List ℕ = message_spelling m ++ rest in
    let w7 : List ℕ = reply_spelling m.reply ++ rest in
    let w6 : List ℕ = bytes_32 m.delay ++ w7 in
    let w5 : List ℕ = numbers_spelling m.after ++ w6 in
    let w4 : List ℕ = pieces_spelling m.args ++ w5 in
    let w3 : List ℕ = handler_spelling m.behavior m.handler ++ w4 in
    let w2 : List ℕ = target_spelling m.target ++ w3 in
    ap (λ bytes. made_above_at before bytes >>= λ a. target_at a.1 >>= λ b. handler_at b.1 >>= λ c. pieces_at c.1 >>= λ d. numbers_at d.1 >>= λ e. number_at w32 e.1 >>= λ f. reply_at f.1 >>= λ x. if_waiting whole (message_of a.0 b.0 c.0 d.0 e.0 f.0 x.0) x.1)
    (seven_more (made_spelling m.maker m.serial) (target_spelling m.target) (handler_spelling m.behavior m.handler) (pieces_spelling m.args) (numbers_spelling m.after) (bytes_32 m.delay) (reply_spelling m.reply) rest)
    ∙ ap (λ (z : Reading (Name × ℕ)). z >>= λ a. target_at a.1 >>= λ b. handler_at b.1 >>= λ c. pieces_at c.1 >>= λ d. numbers_at d.1 >>= λ e. number_at w32 e.1 >>= λ f. reply_at f.1 >>= λ x. if_waiting whole (message_of a.0 b.0 c.0 d.0 e.0 f.0 x.0) x.1)
    (made_above_again before m.maker m.serial w2 g.maker h.maker above g.serial)
    ∙ ap (λ (z : Reading Target). z >>= λ b. handler_at b.1 >>= λ c. pieces_at c.1 >>= λ d. numbers_at d.1 >>= λ e. number_at w32 e.1 >>= λ f. reply_at f.1 >>= λ x. if_waiting whole (message_of (m.maker, m.serial) b.0 c.0 d.0 e.0 f.0 x.0) x.1)
    (target_again m.target w3 g.goes_to h.target)
    ∙ ap (λ (z : Reading (ℕ × ℕ)). z >>= λ c. pieces_at c.1 >>= λ d. numbers_at d.1 >>= λ e. number_at w32 e.1 >>= λ f. reply_at f.1 >>= λ x. if_waiting whole (message_of (m.maker, m.serial) m.target c.0 d.0 e.0 f.0 x.0) x.1)
    (handler_again m.behavior m.handler w4 g.behavior g.handler)
    ∙ ap (λ (z : Reading (List Piece)). z >>= λ d. numbers_at d.1 >>= λ e. number_at w32 e.1 >>= λ f. reply_at f.1 >>= λ x. if_waiting whole (message_of (m.maker, m.serial) m.target (m.behavior, m.handler) d.0 e.0 f.0 x.0) x.1)
    (pieces_again m.args w5 g.args h.args)
    ∙ ap (λ (z : Reading (List ℕ)). z >>= λ e. number_at w32 e.1 >>= λ f. reply_at f.1 >>= λ x. if_waiting whole (message_of (m.maker, m.serial) m.target (m.behavior, m.handler) m.args e.0 f.0 x.0) x.1)
    (numbers_again m.after w6 h.few_after g.after)
    ∙ ap (λ (z : Reading ℕ). z >>= λ f. reply_at f.1 >>= λ x. if_waiting whole (message_of (m.maker, m.serial) m.target (m.behavior, m.handler) m.args m.after f.0 x.0) x.1) (again_32 m.delay w7 g.delay)
    ∙ ap (λ (z : Reading Reply). z >>= λ x. if_waiting whole (message_of (m.maker, m.serial) m.target (m.behavior, m.handler) m.args m.after m.delay x.0) x.1) (reply_again m.reply rest g.reply h.reply)
    ∙ ap (λ b. if b then wrong whole else Ok (m, rest)) (not_true (is_ready m) h.waits)

messages_again : (ms : List Message) (rest : List ℕ) → list_all waiting_in_range ms ≡ true → ListGood message_is_spelled ms → rise (message_numbers ms) ≡ true → messages_at (list_spelling message_spelling ms ++ rest) ≡ Ok (ms, rest)
unfolding messages_at
messages_again ms rest r s rises = numbered_again (λ m. m.serial) message_at message_spelling waiting_in_range message_is_spelled message_again ms rest r s rises

-- ---- joins

slot_again : (o : Option Value) (rest : List ℕ) → slot_in_range o ≡ true → slot_is_spelled o ≡ true → slot_at (slot_spelling o ++ rest) ≡ Ok (o, rest)
unfolding slot_at bool_at slot_spelling slot_is_spelled
slot_again None rest r s = refl
slot_again (Some v) rest r s = ap (λ (x : Reading Value). x >>= λ w. Ok (Some w.0, w.1)) (value_again v rest r s)

slots_again : (ss : List (Option Value)) (rest : List ℕ) → list_all slot_in_range ss ≡ true → ListGood slot_is_spelled ss → slots_at (list_spelling slot_spelling ss ++ rest) ≡ Ok (ss, rest)
unfolding slots_at
slots_again ss rest r s = list_again slot_at slot_spelling slot_in_range slot_is_spelled slot_again ss rest r s

flag_again : (b : Bool) (rest : List ℕ) → bool_at ((if b then 1 else 0) ∷ rest) ≡ Ok (b, rest)
unfolding bool_at
flag_again true rest = refl
flag_again false rest = refl

join_more : (a : List ℕ) (t : ℕ) (b c rest : List ℕ) → (a ++ (t ∷ (b ++ c))) ++ rest ≡ a ++ (t ∷ (b ++ (c ++ rest)))
join_more a t b c rest = simp append_assoc

join_again : (before : Option ℕ) (j : Join) (rest : List ℕ) → is_above before j.number ≡ true → join_in_range j ≡ true → join_is_spelled j ≡ true → join_at before (join_spelling j ++ rest) ≡ Ok (j, rest)
unfolding join_at join_spelling
join_again before j rest above r s =
    let a = and_parts (is_u64 j.number) (list_all slot_in_range j.places && reply_in_range j.reply) r in
    let b = and_parts (list_all slot_in_range j.places) (reply_in_range j.reply) a.1 in
    let h = join_good j s in
    let whole : List ℕ = join_spelling j ++ rest in
    let flag : ℕ = if j.void then 1 else 0 in
    let w4 : List ℕ = reply_spelling j.reply ++ rest in
    let w3 : List ℕ = list_spelling slot_spelling j.places ++ w4 in
    ap (λ bytes. rising_at before bytes >>= λ n. bool_at n.1 >>= λ v. slots_at v.1 >>= λ ss. reply_at ss.1 >>= λ x. if_open whole (join_of n.0 v.0 ss.0 x.0) x.1) (join_more (bytes_64 j.number) flag (list_spelling slot_spelling j.places) (reply_spelling j.reply) rest)
    ∙ ap (λ (z : Reading ℕ). z >>= λ n. bool_at n.1 >>= λ v. slots_at v.1 >>= λ ss. reply_at ss.1 >>= λ x. if_open whole (join_of n.0 v.0 ss.0 x.0) x.1) (rising_again before j.number (flag ∷ w3) above a.0)
    ∙ ap (λ (z : Reading Bool). z >>= λ v. slots_at v.1 >>= λ ss. reply_at ss.1 >>= λ x. if_open whole (join_of j.number v.0 ss.0 x.0) x.1) (flag_again j.void w3)
    ∙ ap (λ (z : Reading (List (Option Value))). z >>= λ ss. reply_at ss.1 >>= λ x. if_open whole (join_of j.number j.void ss.0 x.0) x.1) (slots_again j.places w4 b.0 h.slots)
    ∙ ap (λ (z : Reading Reply). z >>= λ x. if_open whole (join_of j.number j.void j.places x.0) x.1) (reply_again j.reply rest b.1 h.reply)
    ∙ ap (λ t. if t then wrong whole else Ok (j, rest)) (not_true (is_full j) h.still_open)

joins_again : (js : List Join) (rest : List ℕ) → list_all join_in_range js ≡ true → ListGood join_is_spelled js → rise (join_numbers js) ≡ true → joins_at (list_spelling join_spelling js ++ rest) ≡ Ok (js, rest)
unfolding joins_at
joins_again js rest r s rises = numbered_again (λ j. j.number) join_at join_spelling join_in_range join_is_spelled join_again js rest r s rises

-- ---- the actor

-- the actor without its book and its mailbox
abbrev bare : Resident → Resident
bare r = with_book_and_mailbox r (book_of [] []) []

five_more : (a b c d e rest : List ℕ) → (a ++ (b ++ (c ++ (d ++ e)))) ++ rest ≡ a ++ (b ++ (c ++ (d ++ (e ++ rest))))
five_more a b c d e rest = simp append_assoc

state_again : (r : Resident) (rest : List ℕ) → state_in_range r ≡ true → state_is_spelled r ≡ true → state_at (state_spelling r ++ rest) ≡ Ok (bare r, rest)
unfolding state_at state_spelling
state_again r rest ranges s =
    let a = and_parts (is_u64 r.moves) (is_u16 r.behavior && (list_all in_range r.fields && is_u64 r.serial)) ranges in
    let b = and_parts (is_u16 r.behavior) (list_all in_range r.fields && is_u64 r.serial) a.1 in
    let c = and_parts (list_all in_range r.fields) (is_u64 r.serial) b.1 in
    let h = state_good r s in
    let u = universal r.name h.universal h.name in
    let w5 : List ℕ = bytes_64 r.serial ++ rest in
    let w4 : List ℕ = values_spelling r.fields ++ w5 in
    let w3 : List ℕ = bytes_16 r.behavior ++ w4 in
    let w2 : List ℕ = bytes_64 r.moves ++ w3 in
    ap (λ bytes. uan_at bytes >>= λ n. number_at w64 n.1 >>= λ k. number_at w16 k.1 >>= λ l. values_at 255 l.1 >>= λ f. number_at w64 f.1 >>= λ x. Ok (state_of n.0 k.0 l.0 f.0 x.0, x.1))
    (five_more (name_spelling r.name) (bytes_64 r.moves) (bytes_16 r.behavior) (values_spelling r.fields) (bytes_64 r.serial) rest)
    ∙ ap (λ m. uan_at (name_spelling m ++ w2) >>= λ n. number_at w64 n.1 >>= λ k. number_at w16 k.1 >>= λ l. values_at 255 l.1 >>= λ f. number_at w64 f.1 >>= λ x. Ok (state_of n.0 k.0 l.0 f.0 x.0, x.1)) u.1
    ∙ ap (λ (z : Reading Uan). z >>= λ n. number_at w64 n.1 >>= λ k. number_at w16 k.1 >>= λ l. values_at 255 l.1 >>= λ f. number_at w64 f.1 >>= λ x. Ok (state_of n.0 k.0 l.0 f.0 x.0, x.1)) (uan_again u.0 w2 u.2)
    ∙ ap (λ (z : Reading ℕ). z >>= λ k. number_at w16 k.1 >>= λ l. values_at 255 l.1 >>= λ f. number_at w64 f.1 >>= λ x. Ok (state_of u.0 k.0 l.0 f.0 x.0, x.1)) (again_64 r.moves w3 a.0)
    ∙ ap (λ (z : Reading ℕ). z >>= λ l. values_at 255 l.1 >>= λ f. number_at w64 f.1 >>= λ x. Ok (state_of u.0 r.moves l.0 f.0 x.0, x.1)) (again_16 r.behavior w4 b.0)
    ∙ ap (λ (z : Reading (List Value)). z >>= λ f. number_at w64 f.1 >>= λ x. Ok (state_of u.0 r.moves r.behavior f.0 x.0, x.1)) (values_again 255 r.fields w5 h.few c.0 h.fields)
    ∙ ap (λ (z : Reading ℕ). z >>= λ x. Ok (state_of u.0 r.moves r.behavior r.fields x.0, x.1)) (again_64 r.serial rest c.1)
    ∙ (λ i. Ok (record (bare r) { name = sym u.1 i }, rest))

book_again : (b : Book) (rest : List ℕ) → book_in_range b ≡ true → book_is_spelled b ≡ true → book_at (book_spelling b ++ rest) ≡ Ok (b, rest)
unfolding book_at book_spelling
book_again b rest r s =
    let p = and_parts (list_all waiting_in_range b.messages) (list_all join_in_range b.joins) r in
    let h = book_good b s in
    ap (λ bytes. messages_at bytes >>= λ m. joins_at m.1 >>= λ j. Ok (book_of m.0 j.0, j.1)) (append_assoc (list_spelling message_spelling b.messages) (list_spelling join_spelling b.joins) rest)
    ∙ ap (λ (z : Reading (List Message)). z >>= λ m. joins_at m.1 >>= λ j. Ok (book_of m.0 j.0, j.1)) (messages_again b.messages (list_spelling join_spelling b.joins ++ rest) p.0 h.messages h.messages_rise)
    ∙ ap (λ (z : Reading (List Join)). z >>= λ j. Ok (book_of b.messages j.0, j.1)) (joins_again b.joins rest p.1 h.joins h.joins_rise)

mailbox_again : (ms : List Message) (rest : List ℕ) → list_all message_in_range ms ≡ true → ListGood call_is_spelled ms → mailbox_at (list_spelling call_spelling ms ++ rest) ≡ Ok (ms, rest)
unfolding mailbox_at
mailbox_again ms rest r s = list_again call_at call_spelling message_in_range call_is_spelled call_again ms rest r s

three_more : (a b c rest : List ℕ) → (a ++ (b ++ c)) ++ rest ≡ a ++ (b ++ (c ++ rest))
three_more a b c rest = simp append_assoc

pub actor_again : (r : Resident) (rest : List ℕ) → resident_in_range r ≡ true → is_packable r ≡ true → actor_at (packed_actor r ++ rest) ≡ Ok (r, rest)
unfolding actor_at packed_actor
actor_again r rest ranges s =
    let a = and_parts (state_in_range r) (book_in_range r.book && list_all message_in_range r.mailbox) ranges in
    let b = and_parts (book_in_range r.book) (list_all message_in_range r.mailbox) a.1 in
    let h = actor_good r s in
    let w3 : List ℕ = list_spelling call_spelling r.mailbox ++ rest in
    let w2 : List ℕ = book_spelling r.book ++ w3 in
    ap (λ bytes. state_at bytes >>= λ x. book_at x.1 >>= λ y. mailbox_at y.1 >>= λ z. Ok (with_book_and_mailbox x.0 y.0 z.0, z.1)) (three_more (state_spelling r) (book_spelling r.book) (list_spelling call_spelling r.mailbox) rest)
    ∙ ap (λ (t : Reading Resident). t >>= λ x. book_at x.1 >>= λ y. mailbox_at y.1 >>= λ z. Ok (with_book_and_mailbox x.0 y.0 z.0, z.1)) (state_again r w2 a.0 h.state)
    ∙ ap (λ (t : Reading Book). t >>= λ y. mailbox_at y.1 >>= λ z. Ok (with_book_and_mailbox (bare r) y.0 z.0, z.1)) (book_again r.book w3 b.0 h.book)
    ∙ ap (λ (t : Reading (List Message)). t >>= λ z. Ok (with_book_and_mailbox (bare r) r.book z.0, z.1)) (mailbox_again r.mailbox rest b.1 h.mailbox)

pub packed_unpacked : PackedActorsAreUnpacked
unfolding unpacked_actor whole_actor_at
packed_unpacked r ranges s =
    ap (λ bytes. with_offset (packed_actor r) (actor_at bytes >>= λ x. if_none_left x.0 x.1)) (sym (append-nil (packed_actor r)))
    ∙ ap (λ (t : Reading Resident). with_offset (packed_actor r) (t >>= λ x. if_none_left x.0 x.1)) (actor_again r [] ranges s)
