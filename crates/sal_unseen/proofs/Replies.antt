-- Replies that can be sent, and the books that keep them so.
use Rattle.std.proofs.Common.{◌≡◌, ℕ, zero, suc, ◌+◌, ◌≤◌, Bool, true, false, cond, ◌&&◌, List, [], ◌∷◌, ◌++◌, map, filter, length, Option, Some, None, refl, sym, ap, ◌∙◌, arith}
use Rattle.std.specs.Prelude.{if◌then◌else◌, filter_map, nat_le}
use Rattle.std.specs.List.{list_all, cons_option}
use Rattle.std.specs.Int.{w16, w32, w64, to_be_bytes}
use Rattle.std.proofs.lemmas.Bool.{le-leb, leb-true}
use Rattle.std.proofs.lemmas.Fmt.{length-decimal-le}
use Rattle.std.proofs.lemmas.List.{length-append}
use Rattle.sal_value.specs.declared.name.Name.{Name}
use Rattle.sal_value.specs.declared.name.Name.TheVariants as name
use Rattle.sal_value.specs.declared.name.Uan.{Uan}
use Rattle.sal_value.specs.declared.value.Value.{Value, roll-Value, map-Value, fold-roll-Value}
use Rattle.sal_value.specs.declared.value.Value.TheOpen.{Value-F}
use Rattle.sal_value.specs.declared.value.Value.TheVariants as v
use Rattle.sal_value.specs.Names.{uan_text, is_uan, is_host, is_port, is_uan_path}
use Rattle.sal_value.specs.Spelling.{name_spelling, name_is_spelled, anon_bytes, spelling, is_spelled, is_legal}
use Rattle.sal_value.specs.Coding.{range_step, in_range}
use Rattle.sal_value.proofs.Texts.{length_uan_text, host_short, path_short}
use Rattle.sal_mail.specs.declared.message.Reply.{Reply}
use Rattle.sal_mail.specs.declared.message.Reply.TheVariants.{Nobody, Tok, Place, Outside}
use Rattle.sal_mail.specs.declared.message.Message.{Message}
use Rattle.sal_mail.specs.declared.message.Join.{Join}
use Rattle.sal_mail.specs.declared.effects.Actor.{Actor}
use Rattle.sal_mail.specs.declared.envelope.Envelope.TheVariants as envelope
use Rattle.sal_mail.specs.Message.{is_full, fill_slot, with_slot, slot_values, join_value}
use Rattle.sal_envelope.specs.Spelling.{bytes_32, bytes_64, made_spelling, reply_spelling, reply_is_spelled, is_inner, envelope_spelling, envelope_is_spelled}
use Rattle.sal_envelope.specs.Coding.{reply_in_range}
use Rattle.sal_source.specs.Table.{total}
use Rattle.sal_source.proofs.Same.{total-append, total-map}
use Rattle.sal_source.proofs.Keeping.{split}
use Rattle.sal_book.specs.Book.{Book, join_reply, is_legal_reply, full_replies, has_number, join_after, filled_joins, none_released, book_after_legal, released_by_legal, book_after_reply, released_by_reply}
use Rattle.sal_resident.specs.Coding.{slot_in_range}
use Rattle.sal_spelled.specs.Sending.{is_parcel, may_be_sent}
use Rattle.sal_pieces.specs.Pieces.{Body, OwedReply, loose_call, released_pieces}
use Rattle.sal_pieces.proofs.Stepping.{total_zero}
use Rattle.sal_unseen.specs.Unseen.{is_sendable, is_sendable_join, count_unsendable}

-- ---- how long replies are

port_low : (u : Uan) → is_uan u ≡ true → u.port ≤ 65535
unfolding is_uan
port_low u e =
    let a = split (is_host u.host) (is_port u.port && is_uan_path (47 ∷ u.path)) e in
    let b = split (is_port u.port) (is_uan_path (47 ∷ u.path)) a.1 in
    leb-true u.port 65535 (split (nat_le 1 u.port) (nat_le u.port 65535) b.0).1

pub name_short : (n : Name) → name_is_spelled n ≡ true → length (name_spelling n) ≤ 60000
unfolding name_is_spelled name_spelling anon_bytes
name_short (name.Anon theatre number) e = omega (arith, length-append (to_be_bytes w32 theatre) (to_be_bytes w64 number))
name_short (name.Outside number) e = omega arith
name_short (name.Uan u) e =
    let range : u.port ≤ 65535 = port_low u e in
    omega (arith, length-append (to_be_bytes w16 (length (uan_text u))) (uan_text u), length_uan_text u, host_short u e, path_short u e, length-decimal-le 5 u.port (omega arith) (omega (arith, range)) (omega (arith, range)))

pub made_short : (maker : Name) (serial : ℕ) → name_is_spelled maker ≡ true → length (made_spelling maker serial) ≤ 60008
unfolding bytes_64
made_short maker serial e = omega (arith, name_short maker e, length-append (name_spelling maker) (bytes_64 serial))

pub reply_short : (r : Reply) → reply_is_spelled r ≡ true → length (reply_spelling r) ≤ 60100
unfolding reply_is_spelled reply_spelling bytes_32 bytes_64
reply_short Nobody e = omega arith
reply_short (Outside number) e = omega arith
reply_short (Tok maker number) e = omega (arith, made_short maker number e)
reply_short (Place maker join at) e = omega (arith, made_short maker join e, length-append (made_spelling maker join) (bytes_32 at))

pub legal_parts : (x : Value) → is_legal x ≡ true → (is_spelled x ≡ true) × (length (spelling x) ≤ 65536)
unfolding is_legal
legal_parts x e = let p = split (is_spelled x) (nat_le (length (spelling x)) 65536) e in (p.0, leb-true (length (spelling x)) 65536 p.1)

pub parcel_by : (bytes : List ℕ) → 1 ≤ length bytes → length bytes ≤ 16777216 → is_parcel bytes ≡ true
parcel_by bytes least most = λ i. le-leb 1 (length bytes) least i && le-leb (length bytes) 16777216 most i

-- a reply with a legal value has a spelling that is short enough
pub reply_is_sent : (hops : ℕ) (r : Reply) (x : Value) → is_inner r ≡ true → is_sendable r ≡ true → is_legal x ≡ true → may_be_sent (envelope.Reply hops r x) ≡ true
unfolding may_be_sent envelope_is_spelled envelope_spelling bytes_32
reply_is_sent hops r x inner good legal =
    let spelled = (split (reply_in_range r) (reply_is_spelled r) good).1 in
    let p = legal_parts x legal in
    let value = p.0 in
    let size : length (spelling x) ≤ 65536 = p.1 in
    let short = reply_short r spelled in
    let bytes : List ℕ = reply_spelling r ++ spelling x in
    let all : length bytes ≡ length (reply_spelling r) + length (spelling x) = length-append (reply_spelling r) (spelling x) in
    let parcel : is_parcel (envelope_spelling (envelope.Reply hops r x)) ≡ true = parcel_by (envelope_spelling (envelope.Reply hops r x)) (omega arith) (omega (arith, all, size, short)) in
    λ i. (inner i && (spelled i && value i)) && parcel i

-- ---- values of joins

range_roll : (l : Value-F Value) → in_range (roll-Value l) ≡ range_step (map-Value Value Bool in_range l)
unfolding in_range
range_roll l = fold-roll-Value Bool range_step l

pub range_null : in_range v.Null ≡ true
range_null = ap in_range (sym v.rolls-Null) ∙ range_roll Value-F.Null

all_in : (items : List Value) → list_all (λ b. b) (map in_range items) ≡ list_all in_range items
all_in [] = refl
all_in (x ∷ xs) = ap (λ b. in_range x && b) (all_in xs)

range_array : (items : List Value) → in_range (v.Array items) ≡ list_all in_range items
range_array items = ap in_range (sym (v.rolls-Array items)) ∙ range_roll (Value-F.Array items) ∙ all_in items

filled_in : (at : ℕ) (x : Value) (slots : List (Option Value)) → in_range x ≡ true → list_all slot_in_range slots ≡ true → list_all slot_in_range (fill_slot at x slots) ≡ true
filled_in at x [] good e = refl
filled_in zero x (None ∷ slots) good e = λ i. good i && e i
filled_in zero x (Some y ∷ slots) good e = e
filled_in (suc at) x (slot ∷ slots) good e =
    let p = split (slot_in_range slot) (list_all slot_in_range slots) e in
    λ i. p.0 i && filled_in at x slots good p.1 i

slots_in : (slots : List (Option Value)) → list_all slot_in_range slots ≡ true → list_all in_range (slot_values slots) ≡ true
slots_in [] e = refl
slots_in (None ∷ slots) e = slots_in slots e
slots_in (Some x ∷ slots) e =
    let p = split (in_range x) (list_all slot_in_range slots) e in
    λ i. p.0 i && slots_in slots p.1 i

value_in : (j : Join) → list_all slot_in_range j.places ≡ true → in_range (join_value j) ≡ true
value_in j e = at j.void
  where
    at : (b : Bool) → in_range (cond b v.Null (v.Array (slot_values j.places))) ≡ true
    at true = range_null
    at false = range_array (slot_values j.places) ∙ slots_in j.places e

-- ---- joins that a value comes to

abbrev Good : List Join → Type 0
Good js = list_all is_sendable_join js ≡ true

slot_good : (at : ℕ) (x : Value) (j : Join) → in_range x ≡ true → is_sendable_join j ≡ true → is_sendable_join (with_slot at x j) ≡ true
slot_good at x j range good =
    let p = split (is_sendable j.reply) (list_all slot_in_range j.places) good in
    λ i. p.0 i && filled_in at x j.places range p.1 i

after_good : (n at : ℕ) (x : Value) (js : List Join) → in_range x ≡ true → Good js → Good (filter_map (join_after n at x) js)
after_good n at x [] range good = refl
after_good n at x (j ∷ js) range good =
    let p = split (is_sendable_join j) (list_all is_sendable_join js) good in
    by (has_number n j) (is_full (with_slot at x j)) p.0 (slot_good at x j range p.0) (after_good n at x js range p.1)
  where
    by : (b c : Bool) → is_sendable_join j ≡ true → is_sendable_join (with_slot at x j) ≡ true → Good (filter_map (join_after n at x) js)
        → Good (cons_option (cond b (cond c None (Some (with_slot at x j))) (Some j)) (filter_map (join_after n at x) js))
    by true true old new rest = rest
    by true false old new rest = λ i. new i && rest i
    by false c old new rest = λ i. old i && rest i

filled_good : (n at : ℕ) (x : Value) (js : List Join) → in_range x ≡ true → Good js → Good (filled_joins n at x js)
filled_good n at x [] range good = refl
filled_good n at x (j ∷ js) range good =
    let p = split (is_sendable_join j) (list_all is_sendable_join js) good in
    by (has_number n j) (slot_good at x j range p.0) (filled_good n at x js range p.1)
  where
    by : (b : Bool) → is_sendable_join (with_slot at x j) ≡ true → Good (filled_joins n at x js) → Good (map (with_slot at x) (cond b (j ∷ filter (has_number n) js) (filter (has_number n) js)))
    by true new rest = λ i. new i && rest i
    by false new rest = rest

-- ---- what leaves a book

owed_good : (j : Join) → is_sendable_join j ≡ true → count_unsendable (OwedReply (join_reply j)) ≡ 0
owed_good j good =
    let p = split (is_sendable j.reply) (list_all slot_in_range j.places) good in
    let value = value_in j p.1 in
    let reply = p.0 in
    λ i. if reply i && value i then 0 else 1

pub replies_good : (js : List Join) → Good js → total count_unsendable (map OwedReply (full_replies js)) ≡ 0
replies_good [] good = refl
replies_good (j ∷ js) good =
    let p = split (is_sendable_join j) (list_all is_sendable_join js) good in
    by (is_full j) (is_legal_reply (join_reply j)) (owed_good j p.0) (replies_good js p.1)
  where
    legal : (c : Bool) → count_unsendable (OwedReply (join_reply j)) ≡ 0 → total count_unsendable (map OwedReply (full_replies js)) ≡ 0
        → total count_unsendable (map OwedReply (cond c (join_reply j ∷ full_replies js) (full_replies js))) ≡ 0
    legal true one rest = omega (arith, one, rest)
    legal false one rest = rest

    by : (b c : Bool) → count_unsendable (OwedReply (join_reply j)) ≡ 0 → total count_unsendable (map OwedReply (full_replies js)) ≡ 0
        → total count_unsendable (map OwedReply (filter is_legal_reply (map join_reply (cond b (j ∷ filter is_full js) (filter is_full js))))) ≡ 0
    by true c one rest = legal (is_legal_reply (join_reply j)) one rest
    by false c one rest = rest

pub all_good : (b : Bool) → ◌≡◌ {A = ℕ} (if b then 0 else 1) 0 → b ≡ true
all_good true e = refl
all_good false e = absurd (omega (arith, e))

legal_stays : (a : Actor × ℕ) (b : Book) (r : Reply) (x : Value) → in_range x ≡ true → count_unsendable (Body a b) ≡ 0
    → count_unsendable (Body a (book_after_legal r x b)) + total count_unsendable (released_pieces (released_by_legal r x b)) ≡ 0
legal_stays a b Nobody x range e = omega (arith, e)
legal_stays a b (Outside number) x range e = omega (arith, e)
legal_stays a b (Tok maker n) x range e =
    let out : List Message = (released_by_legal (Tok maker n) x b).messages in
    omega (arith, e, total-append count_unsendable (map loose_call out) [], total-map count_unsendable loose_call out, total_zero out)
legal_stays a b (Place maker n at) x range e =
    let good = all_good (list_all is_sendable_join b.joins) e in
    let kept = after_good n at x b.joins range good in
    let body : ◌≡◌ {A = ℕ} (if list_all is_sendable_join (filter_map (join_after n at x) b.joins) then 0 else 1) 0 = (λ i. if kept i then 0 else 1) in
    omega (arith, body, replies_good (filled_joins n at x b.joins) (filled_good n at x b.joins range good))

-- whatever reply a book takes, what it keeps and releases can be sent
pub sendable_stays : (a : Actor × ℕ) (b : Book) (r : Reply) (x : Value) → in_range x ≡ true → count_unsendable (Body a b) ≡ 0
    → count_unsendable (Body a (book_after_reply r x b)) + total count_unsendable (released_pieces (released_by_reply r x b)) ≡ 0
sendable_stays a b r x range e = at (is_legal x)
  where
    at : (c : Bool) → count_unsendable (Body a (if c then book_after_legal r x b else b)) + total count_unsendable (released_pieces (if c then released_by_legal r x b else none_released)) ≡ 0
    at true = legal_stays a b r x range e
    at false = omega (arith, e)
