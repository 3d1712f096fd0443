-- Envelopes that are spelled are read again.
use Rattle.std.proofs.Common.{◌≡◌, ℕ, ◌≤◌, Bool, true, false, ◌&&◌, List, [], ◌∷◌, ◌++◌, length, map, Option, Ok, refl, sym, ap, ◌∙◌, append_assoc, append-nil, arith, true≢false, inl, inr}
use Rattle.std.specs.Prelude.{if◌then◌else◌, nat_le, nat_eq}
use Rattle.std.specs.Int.{w16, w32}
use Rattle.std.specs.List.{list_all}
use Rattle.std.proofs.lemmas.Bool.{and_parts}
use Rattle.std.proofs.lemmas.Bool.Decides.{nat_tests, eqb_tells}
use Rattle.sal_value.specs.declared.name.Name.{Name}
use Rattle.sal_value.specs.declared.name.Name.TheVariants as name
use Rattle.sal_value.specs.declared.name.Uan.{Uan}
use Rattle.sal_value.specs.declared.name.Ual.{Ual}
use Rattle.sal_value.specs.declared.value.Value.{Value}
use Rattle.sal_value.specs.Names.{is_uan, is_ual}
use Rattle.sal_value.specs.Spelling.{name_spelling, name_is_spelled, spelling, is_spelled}
use Rattle.sal_value.specs.Coding.{name_in_range, in_range}
use Rattle.sal_mail.specs.declared.message.Piece.{Piece}
use Rattle.sal_mail.specs.declared.message.Piece.TheVariants.{Known, Token}
use Rattle.sal_mail.specs.declared.message.Target.{Target}
use Rattle.sal_mail.specs.declared.message.Target.TheVariants as target
use Rattle.sal_mail.specs.declared.message.Reply.{Reply}
use Rattle.sal_mail.specs.declared.message.Message.{Message}
use Rattle.sal_mail.specs.declared.effects.Actor.{Actor}
use Rattle.sal_mail.specs.declared.envelope.Envelope.{Envelope}
use Rattle.sal_mail.specs.declared.envelope.Envelope.TheVariants as envelope
use Rattle.sal_mail.specs.Message.{is_known, is_none_left, is_ready, known_values}
use Rattle.sal_envelope.specs.Spelling.{bytes_16, bytes_32, bytes_64, uan_spelling, locator_spelling, values_spelling, made_spelling, reply_spelling, reply_is_spelled, is_inner, callee_spelling, callee_is_spelled, handler_spelling, call_spelling, call_is_spelled, values_are_spelled, found_spelling, found_is_spelled, actor_spelling, actor_is_spelled, is_universal, envelope_spelling, envelope_is_spelled}
use Rattle.sal_envelope.specs.Decoding.{Reading, ◌>>=◌, number_at, bool_at, name_at, value_at, uan_at, locator_at, values_at, made_at, inner_at, reply_at, handler_at, call_of, call_at, moved_at, found_at, call_envelope_at, reply_envelope_at, create_at, put_at, put_reply_at, get_at, get_reply_at, update_at, envelope_at, if_none_left, whole_at, with_offset, decoded_envelope}
use Rattle.sal_envelope.specs.Coding.{is_u16, is_u32, is_u64, target_in_range, reply_in_range, piece_in_range, message_in_range, found_in_range, envelope_in_range, SpelledEnvelopesAreDecoded}
use Rattle.sal_envelope.proofs.Again.{again_16, again_32, name_again, value_again, uan_again, locator_again, values_again, made_again, inner_again, reply_again, handler_again, moved_again, found_again}

-- ---- calls

callee_good : (t : Target) → callee_is_spelled t ≡ true → target_in_range t ≡ true → (n : Name) × (t ≡ target.Actor n) × (name_is_spelled n ≡ true) × (name_in_range n ≡ true)
unfolding callee_is_spelled
callee_good (target.Actor n) s r = (n, refl, s, r)
callee_good target.Output s r = absurd (true≢false (sym s))

all_known : (pieces : List Piece) → list_all is_known pieces ≡ true → map Known (known_values pieces) ≡ pieces
all_known [] h = refl
all_known (Known v ∷ pieces) h = ap (λ l. Known v ∷ l) (all_known pieces h)
all_known (Token n ∷ pieces) h = absurd (true≢false (sym h))

values_range : (pieces : List Piece) → list_all piece_in_range pieces ≡ true → list_all in_range (known_values pieces) ≡ true
values_range [] h = refl
values_range (Known v ∷ pieces) h =
    let parts = and_parts (in_range v) (list_all piece_in_range pieces) h in
    ap (λ b. b && list_all in_range (known_values pieces)) parts.0 ∙ values_range pieces parts.1
values_range (Token n ∷ pieces) h = values_range pieces (and_parts (is_u64 n) (list_all piece_in_range pieces) h).1

none_after : (numbers : List ℕ) → is_none_left numbers ≡ true → [] ≡ numbers
none_after [] h = refl
none_after (n ∷ numbers) h = absurd (true≢false (sym h))

zero_delay : (delay : ℕ) → nat_eq delay 0 ≡ true → 0 ≡ delay
zero_delay delay h = elim (eqb_tells delay 0) [ inl y ↦ sym y.1 | inr n ↦ absurd (true≢false (sym h ∙ n.0)) ]

sixteen : (n : ℕ) → nat_le n 16 ≡ true → n ≤ 16
sixteen n h = grind (arith, nat_tests)

most : (n : ℕ) → nat_le n 255 ≡ true → n ≤ 255
most n h = grind (arith, nat_tests)

-- a call that has a spelling, in ranges
record CallGood (m : Message) : Type 0 where
  maker_range : name_in_range m.maker ≡ true
  maker : name_is_spelled m.maker ≡ true
  serial : is_u64 m.serial ≡ true
  callee : Name
  goes_to : m.target ≡ target.Actor callee
  callee_spelled : name_is_spelled callee ≡ true
  callee_range : name_in_range callee ≡ true
  behavior : is_u16 m.behavior ≡ true
  handler : is_u16 m.handler ≡ true
  few : length (known_values m.args) ≤ 16
  values_spelled : list_all is_spelled (known_values m.args) ≡ true
  values_in_range : list_all in_range (known_values m.args) ≡ true
  known : map Known (known_values m.args) ≡ m.args
  after : [] ≡ m.after
  delay : 0 ≡ m.delay
  reply : reply_is_spelled m.reply ≡ true
  reply_range : reply_in_range m.reply ≡ true

call_good : (m : Message) → message_in_range m ≡ true → call_is_spelled m ≡ true → CallGood m
unfolding call_is_spelled
call_good m r s =
    let a = and_parts (name_is_spelled m.maker) (callee_is_spelled m.target && (is_ready m && (nat_eq m.delay 0 && (values_are_spelled 16 (known_values m.args) && reply_is_spelled m.reply)))) s in
    let b = and_parts (callee_is_spelled m.target) (is_ready m && (nat_eq m.delay 0 && (values_are_spelled 16 (known_values m.args) && reply_is_spelled m.reply))) a.1 in
    let c = and_parts (is_ready m) (nat_eq m.delay 0 && (values_are_spelled 16 (known_values m.args) && reply_is_spelled m.reply)) b.1 in
    let ready = and_parts (list_all is_known m.args) (is_none_left m.after) c.0 in
    let d = and_parts (nat_eq m.delay 0) (values_are_spelled 16 (known_values m.args) && reply_is_spelled m.reply) c.1 in
    let e = and_parts (values_are_spelled 16 (known_values m.args)) (reply_is_spelled m.reply) d.1 in
    let f = and_parts (nat_le (length (known_values m.args)) 16) (list_all is_spelled (known_values m.args)) e.0 in
    let p = and_parts (name_in_range m.maker) (is_u64 m.serial && (target_in_range m.target && (is_u16 m.behavior && (is_u16 m.handler && (list_all piece_in_range m.args && reply_in_range m.reply))))) r in
    let q = and_parts (is_u64 m.serial) (target_in_range m.target && (is_u16 m.behavior && (is_u16 m.handler && (list_all piece_in_range m.args && reply_in_range m.reply)))) p.1 in
    let t = and_parts (target_in_range m.target) (is_u16 m.behavior && (is_u16 m.handler && (list_all piece_in_range m.args && reply_in_range m.reply))) q.1 in
    let u = and_parts (is_u16 m.behavior) (is_u16 m.handler && (list_all piece_in_range m.args && reply_in_range m.reply)) t.1 in
    let v = and_parts (is_u16 m.handler) (list_all piece_in_range m.args && reply_in_range m.reply) u.1 in
    let w = and_parts (list_all piece_in_range m.args) (reply_in_range m.reply) v.1 in
    let callee = callee_good m.target b.0 t.0 in
    record {
      maker_range = p.0;
      maker = a.0;
      serial = q.0;
      callee = callee.0;
      goes_to = callee.1;
      callee_spelled = callee.2;
      callee_range = callee.3;
      behavior = u.0;
      handler = v.0;
      few = sixteen (length (known_values m.args)) f.0;
      values_spelled = f.1;
      values_in_range = values_range m.args w.0;
      known = all_known m.args ready.0;
      after = none_after m.after ready.1;
      delay = zero_delay m.delay d.0;
      reply = e.1;
      reply_range = w.1;
    }

five_more : (a b c d e rest : List ℕ) → (a ++ (b ++ (c ++ (d ++ e)))) ++ rest ≡ a ++ (b ++ (c ++ (d ++ (e ++ rest))))
five_more a b c d e rest = simp append_assoc

pub call_again : (m : Message) (rest : List ℕ) → message_in_range m ≡ true → call_is_spelled m ≡ true → call_at (call_spelling m ++ rest) ≡ Ok (m, rest)
unfolding call_at call_spelling callee_spelling
call_again m rest r s =
    let g = call_good m r s in
    let values : List Value = known_values m.args in
    let made : List ℕ = made_spelling m.maker m.serial in
    let code : List ℕ = handler_spelling m.behavior m.handler in
    let tail : List ℕ = reply_spelling m.reply ++ rest in
    ap (λ bytes. made_at bytes >>= λ p. name_at p.1 >>= λ n. handler_at n.1 >>= λ h. values_at 16 h.1 >>= λ vs. reply_at vs.1 >>= λ x. Ok (call_of p.0 n.0 h.0 vs.0 x.0, x.1))
    (five_more made (callee_spelling m.target) code (values_spelling values) (reply_spelling m.reply) rest)
    ∙ ap (λ (z : Reading (Name × ℕ)). z >>= λ p. name_at p.1 >>= λ n. handler_at n.1 >>= λ h. values_at 16 h.1 >>= λ vs. reply_at vs.1 >>= λ x. Ok (call_of p.0 n.0 h.0 vs.0 x.0, x.1))
    (made_again m.maker m.serial (callee_spelling m.target ++ (code ++ (values_spelling values ++ tail))) g.maker_range g.maker g.serial)
    ∙ ap (λ (t : Target). name_at (callee_spelling t ++ (code ++ (values_spelling values ++ tail))) >>= λ n. handler_at n.1 >>= λ h. values_at 16 h.1 >>= λ vs. reply_at vs.1 >>= λ x. Ok (call_of (m.maker, m.serial) n.0 h.0 vs.0 x.0, x.1))
    g.goes_to
    ∙ ap (λ (z : Reading Name). z >>= λ n. handler_at n.1 >>= λ h. values_at 16 h.1 >>= λ vs. reply_at vs.1 >>= λ x. Ok (call_of (m.maker, m.serial) n.0 h.0 vs.0 x.0, x.1))
    (name_again g.callee (code ++ (values_spelling values ++ tail)) g.callee_range g.callee_spelled)
    ∙ ap (λ (z : Reading (ℕ × ℕ)). z >>= λ h. values_at 16 h.1 >>= λ vs. reply_at vs.1 >>= λ x. Ok (call_of (m.maker, m.serial) g.callee h.0 vs.0 x.0, x.1))
    (handler_again m.behavior m.handler (values_spelling values ++ tail) g.behavior g.handler)
    ∙ ap (λ (z : Reading (List Value)). z >>= λ vs. reply_at vs.1 >>= λ x. Ok (call_of (m.maker, m.serial) g.callee (m.behavior, m.handler) vs.0 x.0, x.1)) (values_again 16 values tail g.few g.values_in_range g.values_spelled)
    ∙ ap (λ (z : Reading Reply). z >>= λ x. Ok (call_of (m.maker, m.serial) g.callee (m.behavior, m.handler) values x.0, x.1)) (reply_again m.reply rest g.reply_range g.reply)
    ∙ (λ i. Ok (record m { target = sym g.goes_to i; args = g.known i; after = g.after i; delay = g.delay i }, rest))

-- ---- envelopes

call_envelope_again : (hops : ℕ) (m : Message) (rest : List ℕ) → is_u32 hops ≡ true → message_in_range m ≡ true → call_is_spelled m ≡ true → call_envelope_at ((bytes_32 hops ++ call_spelling m) ++ rest) ≡ Ok (envelope.Call hops m, rest)
unfolding call_envelope_at
call_envelope_again hops m rest h r s =
    ap (λ bytes. number_at w32 bytes >>= λ n. call_at n.1 >>= λ x. Ok (envelope.Call n.0 x.0, x.1)) (append_assoc (bytes_32 hops) (call_spelling m) rest)
    ∙ ap (λ (z : Reading ℕ). z >>= λ n. call_at n.1 >>= λ x. Ok (envelope.Call n.0 x.0, x.1)) (again_32 hops (call_spelling m ++ rest) h)
    ∙ ap (λ (z : Reading Message). z >>= λ x. Ok (envelope.Call hops x.0, x.1)) (call_again m rest r s)

three_more : (a b c rest : List ℕ) → (a ++ (b ++ c)) ++ rest ≡ a ++ (b ++ (c ++ rest))
three_more a b c rest = simp append_assoc

reply_envelope_again : (hops : ℕ) (reply : Reply) (v : Value) (rest : List ℕ) → is_u32 hops ≡ true → is_inner reply ≡ true → reply_in_range reply ≡ true → reply_is_spelled reply ≡ true → in_range v ≡ true → is_spelled v ≡ true
    → reply_envelope_at ((bytes_32 hops ++ (reply_spelling reply ++ spelling v)) ++ rest) ≡ Ok (envelope.Reply hops reply v, rest)
unfolding reply_envelope_at
reply_envelope_again hops reply v rest h i r s vr vs =
    ap (λ bytes. number_at w32 bytes >>= λ n. inner_at n.1 >>= λ x. value_at x.1 >>= λ y. Ok (envelope.Reply n.0 x.0 y.0, y.1)) (three_more (bytes_32 hops) (reply_spelling reply) (spelling v) rest)
    ∙ ap (λ (z : Reading ℕ). z >>= λ n. inner_at n.1 >>= λ x. value_at x.1 >>= λ y. Ok (envelope.Reply n.0 x.0 y.0, y.1)) (again_32 hops (reply_spelling reply ++ (spelling v ++ rest)) h)
    ∙ ap (λ (z : Reading Reply). z >>= λ x. value_at x.1 >>= λ y. Ok (envelope.Reply hops x.0 y.0, y.1)) (inner_again reply (spelling v ++ rest) i r s)
    ∙ ap (λ (z : Reading Value). z >>= λ y. Ok (envelope.Reply hops reply y.0, y.1)) (value_again v rest vr vs)

pub universal : (n : Name) → is_universal n ≡ true → name_is_spelled n ≡ true → (u : Uan) × (n ≡ name.Uan u) × (is_uan u ≡ true)
unfolding name_is_spelled
universal (name.Uan u) e s = (u, refl, s)
universal (name.Anon theatre number) e s = absurd (true≢false (sym e))
universal (name.Outside number) e s = absurd (true≢false (sym e))

create_again : (a : Actor) (rest : List ℕ) → (is_u16 a.behavior && list_all in_range a.fields) ≡ true → actor_is_spelled a ≡ true → create_at (actor_spelling a ++ rest) ≡ Ok (envelope.Create a, rest)
unfolding create_at actor_spelling actor_is_spelled
create_again a rest r s =
    let p = and_parts (is_universal a.name) (name_is_spelled a.name && values_are_spelled 255 a.fields) s in
    let q = and_parts (name_is_spelled a.name) (values_are_spelled 255 a.fields) p.1 in
    let f = and_parts (nat_le (length a.fields) 255) (list_all is_spelled a.fields) q.1 in
    let ranges = and_parts (is_u16 a.behavior) (list_all in_range a.fields) r in
    let u = universal a.name p.0 q.0 in
    ap (λ bytes. uan_at bytes >>= λ n. number_at w16 n.1 >>= λ b. values_at 255 b.1 >>= λ fs. Ok (envelope.Create (record { name = name.Uan n.0; behavior = b.0; fields = fs.0 }), fs.1))
    (three_more (name_spelling a.name) (bytes_16 a.behavior) (values_spelling a.fields) rest)
    ∙ ap (λ n. uan_at (name_spelling n ++ (bytes_16 a.behavior ++ (values_spelling a.fields ++ rest))) >>= λ n. number_at w16 n.1 >>= λ b. values_at 255 b.1 >>= λ fs. Ok (envelope.Create (record { name = name.Uan n.0; behavior = b.0; fields = fs.0 }), fs.1)) u.1
    ∙ ap (λ (z : Reading Uan). z >>= λ n. number_at w16 n.1 >>= λ b. values_at 255 b.1 >>= λ fs. Ok (envelope.Create (record { name = name.Uan n.0; behavior = b.0; fields = fs.0 }), fs.1))
    (uan_again u.0 (bytes_16 a.behavior ++ (values_spelling a.fields ++ rest)) u.2)
    ∙ ap (λ (z : Reading ℕ). z >>= λ b. values_at 255 b.1 >>= λ fs. Ok (envelope.Create (record { name = name.Uan u.0; behavior = b.0; fields = fs.0 }), fs.1)) (again_16 a.behavior (values_spelling a.fields ++ rest) ranges.0)
    ∙ ap (λ (z : Reading (List Value)). z >>= λ fs. Ok (envelope.Create (record { name = name.Uan u.0; behavior = a.behavior; fields = fs.0 }), fs.1)) (values_again 255 a.fields rest (most (length a.fields) f.0) ranges.1 f.1)
    ∙ (λ i. Ok (envelope.Create (record a { name = sym u.1 i }), rest))

put_again : (maker : Name) (serial : ℕ) (n : Uan) (place : Ual) (rest : List ℕ) → name_in_range maker ≡ true → is_u64 serial ≡ true → name_is_spelled maker ≡ true → is_uan n ≡ true → is_ual place ≡ true
    → put_at ((made_spelling maker serial ++ (uan_spelling n ++ locator_spelling place)) ++ rest) ≡ Ok (envelope.Put maker serial n place, rest)
unfolding put_at
put_again maker serial n place rest r k s u l =
    ap (λ bytes. made_at bytes >>= λ m. uan_at m.1 >>= λ x. locator_at x.1 >>= λ y. Ok (envelope.Put m.0.0 m.0.1 x.0 y.0, y.1)) (three_more (made_spelling maker serial) (uan_spelling n) (locator_spelling place) rest)
    ∙ ap (λ (z : Reading (Name × ℕ)). z >>= λ m. uan_at m.1 >>= λ x. locator_at x.1 >>= λ y. Ok (envelope.Put m.0.0 m.0.1 x.0 y.0, y.1)) (made_again maker serial (uan_spelling n ++ (locator_spelling place ++ rest)) r s k)
    ∙ ap (λ (z : Reading Uan). z >>= λ x. locator_at x.1 >>= λ y. Ok (envelope.Put maker serial x.0 y.0, y.1)) (uan_again n (locator_spelling place ++ rest) u)
    ∙ ap (λ (z : Reading Ual). z >>= λ y. Ok (envelope.Put maker serial n y.0, y.1)) (locator_again place rest l)

put_reply_again : (maker : Name) (serial : ℕ) (bound : Bool) (rest : List ℕ) → name_in_range maker ≡ true → is_u64 serial ≡ true → name_is_spelled maker ≡ true
    → put_reply_at ((made_spelling maker serial ++ ((if bound then 0 else 1) ∷ [])) ++ rest) ≡ Ok (envelope.PutReply maker serial bound, rest)
unfolding put_reply_at bool_at
put_reply_again maker serial bound rest r k s =
    ap (λ bytes. made_at bytes >>= λ m. bool_at m.1 >>= λ t. Ok (envelope.PutReply m.0.0 m.0.1 (if t.0 then false else true), t.1)) (append_assoc (made_spelling maker serial) ((if bound then 0 else 1) ∷ []) rest)
    ∙ ap (λ (z : Reading (Name × ℕ)). z >>= λ m. bool_at m.1 >>= λ t. Ok (envelope.PutReply m.0.0 m.0.1 (if t.0 then false else true), t.1)) (made_again maker serial ((if bound then 0 else 1) ∷ rest) r s k)
    ∙ read bound
  where
    read : (b : Bool) → (bool_at ((if b then 0 else 1) ∷ rest) >>= λ t. Ok (envelope.PutReply maker serial (if t.0 then false else true), t.1)) ≡ Ok (envelope.PutReply maker serial b, rest)
    read true = refl
    read false = refl

get_again : (n : Uan) (rest : List ℕ) → is_uan n ≡ true → get_at (uan_spelling n ++ rest) ≡ Ok (envelope.Get n, rest)
unfolding get_at
get_again n rest u = ap (λ (z : Reading Uan). z >>= λ x. Ok (envelope.Get x.0, x.1)) (uan_again n rest u)

get_reply_again : (n : Uan) (found : Option (Ual × ℕ)) (rest : List ℕ) → is_uan n ≡ true → found_in_range found ≡ true → found_is_spelled found ≡ true
    → get_reply_at ((uan_spelling n ++ found_spelling found) ++ rest) ≡ Ok (envelope.GetReply n found, rest)
unfolding get_reply_at
get_reply_again n found rest u r s =
    ap (λ bytes. uan_at bytes >>= λ x. found_at x.1 >>= λ y. Ok (envelope.GetReply x.0 y.0, y.1)) (append_assoc (uan_spelling n) (found_spelling found) rest)
    ∙ ap (λ (z : Reading Uan). z >>= λ x. found_at x.1 >>= λ y. Ok (envelope.GetReply x.0 y.0, y.1)) (uan_again n (found_spelling found ++ rest) u)
    ∙ ap (λ (z : Reading (Option (Ual × ℕ))). z >>= λ y. Ok (envelope.GetReply n y.0, y.1)) (found_again found rest r s)

update_again : (n : Uan) (place : Ual) (moves : ℕ) (rest : List ℕ) → is_uan n ≡ true → is_ual place ≡ true → is_u64 moves ≡ true
    → update_at ((uan_spelling n ++ (locator_spelling place ++ bytes_64 moves)) ++ rest) ≡ Ok (envelope.Update n place moves, rest)
unfolding update_at
update_again n place moves rest u l k =
    ap (λ bytes. uan_at bytes >>= λ x. moved_at x.1 >>= λ y. Ok (envelope.Update x.0 y.0.0 y.0.1, y.1)) (append_assoc (uan_spelling n) (locator_spelling place ++ bytes_64 moves) rest)
    ∙ ap (λ (z : Reading Uan). z >>= λ x. moved_at x.1 >>= λ y. Ok (envelope.Update x.0 y.0.0 y.0.1, y.1)) (uan_again n ((locator_spelling place ++ bytes_64 moves) ++ rest) u)
    ∙ ap (λ (z : Reading (Ual × ℕ)). z >>= λ y. Ok (envelope.Update n y.0.0 y.0.1, y.1)) (moved_again place moves rest l k)

pub envelope_again : (e : Envelope) → envelope_in_range e ≡ true → envelope_is_spelled e ≡ true → envelope_at (envelope_spelling e) ≡ Ok (e, [])
unfolding envelope_at envelope_spelling envelope_is_spelled
envelope_again (envelope.Call hops m) r s =
    let ranges = and_parts (is_u32 hops) (message_in_range m) r in
    ap call_envelope_at (sym (append-nil (bytes_32 hops ++ call_spelling m))) ∙ call_envelope_again hops m [] ranges.0 ranges.1 s
envelope_again (envelope.Reply hops reply v) r s =
    let ranges = and_parts (is_u32 hops) (reply_in_range reply && in_range v) r in
    let inner_range = and_parts (reply_in_range reply) (in_range v) ranges.1 in
    let a = and_parts (is_inner reply) (reply_is_spelled reply && is_spelled v) s in
    let b = and_parts (reply_is_spelled reply) (is_spelled v) a.1 in
    ap reply_envelope_at (sym (append-nil (bytes_32 hops ++ (reply_spelling reply ++ spelling v)))) ∙ reply_envelope_again hops reply v [] ranges.0 a.0 inner_range.0 b.0 inner_range.1 b.1
envelope_again (envelope.Create a) r s = ap create_at (sym (append-nil (actor_spelling a))) ∙ create_again a [] r s
envelope_again (envelope.Move packed) r s = refl
envelope_again (envelope.Put maker serial n place) r s =
    let ranges = and_parts (name_in_range maker) (is_u64 serial) r in
    let a = and_parts (name_is_spelled maker) (is_uan n && is_ual place) s in
    let b = and_parts (is_uan n) (is_ual place) a.1 in
    ap put_at (sym (append-nil (made_spelling maker serial ++ (uan_spelling n ++ locator_spelling place)))) ∙ put_again maker serial n place [] ranges.0 ranges.1 a.0 b.0 b.1
envelope_again (envelope.PutReply maker serial bound) r s =
    let ranges = and_parts (name_in_range maker) (is_u64 serial) r in
    ap put_reply_at (sym (append-nil (made_spelling maker serial ++ ((if bound then 0 else 1) ∷ [])))) ∙ put_reply_again maker serial bound [] ranges.0 ranges.1 s
envelope_again (envelope.Get n) r s = ap get_at (sym (append-nil (uan_spelling n))) ∙ get_again n [] s
envelope_again (envelope.GetReply n found) r s =
    let a = and_parts (is_uan n) (found_is_spelled found) s in
    ap get_reply_at (sym (append-nil (uan_spelling n ++ found_spelling found))) ∙ get_reply_again n found [] a.0 r a.1
envelope_again (envelope.Update n place moves) r s =
    let a = and_parts (is_uan n) (is_ual place) s in
    ap update_at (sym (append-nil (uan_spelling n ++ (locator_spelling place ++ bytes_64 moves)))) ∙ update_again n place moves [] a.0 a.1 r

pub spelled_decoded : SpelledEnvelopesAreDecoded
unfolding decoded_envelope whole_at
spelled_decoded e r s = ap (λ (z : Reading Envelope). with_offset (envelope_spelling e) (z >>= λ x. if_none_left x.0 x.1)) (envelope_again e r s)
