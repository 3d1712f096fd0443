-- What is read at the front of some bytes, or is wrong there, stays so whatever follows.
use Rattle.std.proofs.Common.{◌≡◌, ℕ, zero, suc, ◌-◌, ◌+◌, ◌≤◌, ◌==◌, Bool, true, false, List, [], ◌∷◌, ◌++◌, length, take, drop, Option, Some, None, Result, Ok, Err, refl, sym, ap, subst, ◌∙◌, arith}
use Rattle.std.specs.Prelude.{if◌then◌else◌, nat_lt}
use Rattle.std.specs.Int.{Width, w16, w32, w64, byte_len, from_be_bytes}
use Rattle.std.proofs.lemmas.Bool.{ltb-false, le-ltb}
use Rattle.std.proofs.lemmas.List.{length-append, take-append-le, drop-append-le}
use Rattle.sal_value.specs.declared.name.Name.{Name}
use Rattle.sal_value.specs.declared.name.Name.TheVariants as name
use Rattle.sal_value.specs.declared.name.Ual.{Ual}
use Rattle.sal_value.specs.declared.value.DecodeFault.{DecodeFault}
use Rattle.sal_value.specs.declared.value.DecodeFault.TheVariants as fault
use Rattle.sal_value.specs.Decoding.{decoded_name, decoded_value}
use Rattle.sal_mail.specs.declared.message.Reply.TheVariants.{Nobody, Tok, Place, Outside}
use Rattle.sal_mail.specs.declared.envelope.Envelope.TheVariants as envelope
use Rattle.sal_envelope.specs.declared.fault.Fault.TheVariants.{Cut, Bad, Memory}
use Rattle.sal_envelope.specs.Decoding.{Reading, ◌>>=◌, wrong, byte_at, bytes_at, number_at, bool_at, left_after, name_at, value_at, universal_or_wrong, uan_at, canonical_ual, locator_or_wrong, locator_at, many_at, values_at, made_at, token_at, place_at, inner_by, inner_at, reply_at, handler_at, call_of, call_at, universal_actor, call_envelope_at, reply_envelope_at, create_at, put_at, put_reply_at, get_at, moved_at, found_at, get_reply_at, update_at}
use Rattle.sal_envelope.proofs.Fronts.{name_fits, value_fits}
use Rattle.sal_envelope.proofs.ValuesExtend.{StaysSo, name_stays, value_stays, name_place_fits, value_place_fits}

-- what the second reading says of the same bytes and more, by what the first says
abbrev pub Keeps : {A : Type 0} → List ℕ → Reading A → Reading A → Type 0
Keeps more (Ok x) s = s ≡ Ok (x.0, x.1 ++ more)
Keeps more (Err Cut) s = Unit {0}
Keeps more (Err (Bad left)) s = s ≡ Err (Bad (left + length more))
Keeps more (Err Memory) s = s ≡ Err Memory

pub record Extends {A : Type 0} (more : List ℕ) (r s : Reading A) : Type 0 where
  pub fact : Keeps more r s

pub then_extends : {A B : Type 0} {r s : Reading A} (more : List ℕ) (f g : A × List ℕ → Reading B)
    → Extends more r s → ((x : A) (rest : List ℕ) → Extends more (f (x, rest)) (g (x, rest ++ more))) → Extends more (r >>= f) (s >>= g)
then_extends {A} {B} {r} {s} more f g h k = go r s h k
  where
    go : (r s : Reading A) → Extends more r s → ((x : A) (rest : List ℕ) → Extends more (f (x, rest)) (g (x, rest ++ more))) → Extends more (r >>= f) (s >>= g)
    go (Ok x) s h k = subst (λ z. Extends more (f x) (z >>= g)) (sym h.fact) (k x.0 x.1)
    go (Err Cut) s h k = record { fact = tt }
    go (Err (Bad left)) s h k = record { fact = ap (λ z. z >>= g) h.fact }
    go (Err Memory) s h k = record { fact = ap (λ z. z >>= g) h.fact }

pub done_extends : {A : Type 0} (more : List ℕ) (x : A) (rest : List ℕ) → Extends more (Ok (x, rest)) (Ok (x, rest ++ more))
done_extends more x rest = record { fact = refl }

pub cut_extends : {A : Type 0} (more : List ℕ) (s : Reading A) → Extends more (Err Cut) s
cut_extends more s = record { fact = tt }

pub wrong_extends : {A : Type 0} (more field : List ℕ) → Extends more (wrong {A = A} field) (wrong (field ++ more))
wrong_extends more field = record { fact = ap (λ n. Err (Bad n)) (length-append field more) }

pub if_extends : {A : Type 0} {r r' s s' : Reading A} (more : List ℕ) (b : Bool) → Extends more r r' → Extends more s s' → Extends more (if b then r else s) (if b then r' else s')
if_extends more true h k = h
if_extends more false h k = k

-- ---- fields

pub byte_extends : (more bytes : List ℕ) → Extends more (byte_at bytes) (byte_at (bytes ++ more))
byte_extends more [] = cut_extends more _
byte_extends more (b ∷ rest) = done_extends more b rest

bytes_extends : (more : List ℕ) (n : ℕ) (bytes : List ℕ) → Extends more (bytes_at n bytes) (bytes_at n (bytes ++ more))
unfolding bytes_at
bytes_extends more n bytes = by_length (nat_lt (length bytes) n) refl
  where
    by_length : (b : Bool) → nat_lt (length bytes) n ≡ b
        → Extends more (if b then Err Cut else Ok (take n bytes, drop n bytes)) (if nat_lt (length (bytes ++ more)) n then Err Cut else Ok (take n (bytes ++ more), drop n (bytes ++ more)))
    by_length true e = cut_extends more _
    by_length false e =
        let fits : n ≤ length bytes = ltb-false _ _ e in
        let enough : nat_lt (length (bytes ++ more)) n ≡ false = le-ltb _ _ (omega (arith, length-append bytes more)) in
        record { fact = rw (enough, take-append-le n bytes more fits, drop-append-le n bytes more fits) refl }

pub number_extends : (more : List ℕ) (w : Width) (bytes : List ℕ) → Extends more (number_at w bytes) (number_at w (bytes ++ more))
unfolding number_at
number_extends more w bytes = then_extends more _ _ (bytes_extends more (byte_len w) bytes) (λ t rest. done_extends more (from_be_bytes w t) rest)

pub bool_extends : (more bytes : List ℕ) → Extends more (bool_at bytes) (bool_at (bytes ++ more))
unfolding bool_at
bool_extends more bytes =
    then_extends more _ _ (byte_extends more bytes) (λ b rest.
    if_extends more (b == 0) (done_extends more false rest) (if_extends more (b == 1) (done_extends more true rest) (wrong_extends more bytes)))

-- ---- names, values and locators

left_extends : {A : Type 0} (more bytes : List ℕ) (r s : Result (A × ℕ) DecodeFault) → StaysSo r s
    → ((x : A) (n : ℕ) → r ≡ Ok (x, n) → n ≤ length bytes) → ((place : ℕ) → r ≡ Err (fault.Bad place) → place ≤ length bytes)
    → Extends more (left_after bytes r) (left_after (bytes ++ more) s)
left_extends more bytes (Ok x) s h fits within =
    let size : x.1 ≤ length bytes = fits x.0 x.1 refl in
    record { fact = ap (left_after (bytes ++ more)) h ∙ ap (λ (l : List ℕ). Ok (x.0, l)) (drop-append-le x.1 bytes more size) }
left_extends more bytes (Err fault.Cut) s h fits within = record { fact = tt }
left_extends more bytes (Err (fault.Bad place)) s h fits within =
    let at : place ≤ length bytes = within place refl in
    let left : length (bytes ++ more) - place ≡ (length bytes - place) + length more = omega (arith, length-append bytes more) in
    record { fact = ap (left_after (bytes ++ more)) h ∙ ap (λ n. Err (Bad n)) left }
left_extends more bytes (Err fault.Memory) s h fits within = record { fact = ap (left_after (bytes ++ more)) h }

pub name_extends : (more bytes : List ℕ) → Extends more (name_at bytes) (name_at (bytes ++ more))
unfolding name_at
name_extends more bytes = left_extends more bytes (decoded_name bytes) (decoded_name (bytes ++ more)) (name_stays bytes more) (name_fits bytes) (name_place_fits bytes)

pub value_extends : (more bytes : List ℕ) → Extends more (value_at bytes) (value_at (bytes ++ more))
unfolding value_at
value_extends more bytes = left_extends more bytes (decoded_value bytes) (decoded_value (bytes ++ more)) (value_stays bytes more) (value_fits bytes) (value_place_fits bytes)

universal_extends : (more bytes rest : List ℕ) (n : Name) → Extends more (universal_or_wrong bytes rest n) (universal_or_wrong (bytes ++ more) (rest ++ more) n)
universal_extends more bytes rest (name.Uan u) = done_extends more u rest
universal_extends more bytes rest (name.Anon theatre number) = wrong_extends more bytes
universal_extends more bytes rest (name.Outside number) = wrong_extends more bytes

pub uan_extends : (more bytes : List ℕ) → Extends more (uan_at bytes) (uan_at (bytes ++ more))
unfolding uan_at
uan_extends more bytes =
    then_extends more _ _ (byte_extends more bytes) (λ tag r1.
    if_extends more (tag == 1) (then_extends more _ _ (name_extends more bytes) (λ n rest. universal_extends more bytes rest n)) (wrong_extends more bytes))

or_wrong_extends : (more text rest : List ℕ) (o : Option Ual) → Extends more (locator_or_wrong text rest o) (locator_or_wrong (text ++ more) (rest ++ more) o)
or_wrong_extends more text rest None = wrong_extends more text
or_wrong_extends more text rest (Some l) = done_extends more l rest

locator_extends : (more bytes : List ℕ) → Extends more (locator_at bytes) (locator_at (bytes ++ more))
unfolding locator_at
locator_extends more bytes =
    then_extends more _ _ (number_extends more w16 bytes) (λ n r1.
    then_extends more _ _ (bytes_extends more n r1) (λ t rest. or_wrong_extends more r1 rest (canonical_ual t)))

many_extends : (more : List ℕ) (n : ℕ) (bytes : List ℕ) → Extends more (many_at n bytes) (many_at n (bytes ++ more))
many_extends more zero bytes = done_extends more [] bytes
many_extends more (suc n) bytes =
    then_extends more _ _ (value_extends more bytes) (λ v r1.
    then_extends more _ _ (many_extends more n r1) (λ vs rest. done_extends more (v ∷ vs) rest))

pub values_extends : (more : List ℕ) (most : ℕ) (bytes : List ℕ) → Extends more (values_at most bytes) (values_at most (bytes ++ more))
unfolding values_at
values_extends more most bytes =
    then_extends more _ _ (byte_extends more bytes) (λ n rest. if_extends more (nat_lt most n) (wrong_extends more bytes) (many_extends more n rest))

-- ---- replies and calls

made_extends : (more bytes : List ℕ) → Extends more (made_at bytes) (made_at (bytes ++ more))
unfolding made_at
made_extends more bytes =
    then_extends more _ _ (name_extends more bytes) (λ maker r1.
    then_extends more _ _ (number_extends more w64 r1) (λ serial rest. done_extends more (maker, serial) rest))

token_extends : (more bytes : List ℕ) → Extends more (token_at bytes) (token_at (bytes ++ more))
unfolding token_at
token_extends more bytes = then_extends more _ _ (made_extends more bytes) (λ m rest. done_extends more (Tok m.0 m.1) rest)

place_extends : (more bytes : List ℕ) → Extends more (place_at bytes) (place_at (bytes ++ more))
unfolding place_at
place_extends more bytes =
    then_extends more _ _ (made_extends more bytes) (λ m r1.
    then_extends more _ _ (number_extends more w32 r1) (λ k rest. done_extends more (Place m.0 m.1 k) rest))

inner_by_extends : (more bytes : List ℕ) (kind : ℕ) (rest : List ℕ) → Extends more (inner_by bytes kind rest) (inner_by (bytes ++ more) kind (rest ++ more))
inner_by_extends more bytes kind rest =
    if_extends more (kind == 1) (token_extends more rest) (if_extends more (kind == 2) (place_extends more rest) (wrong_extends more bytes))

inner_extends : (more bytes : List ℕ) → Extends more (inner_at bytes) (inner_at (bytes ++ more))
unfolding inner_at
inner_extends more bytes = then_extends more _ _ (byte_extends more bytes) (λ kind rest. inner_by_extends more bytes kind rest)

pub reply_extends : (more bytes : List ℕ) → Extends more (reply_at bytes) (reply_at (bytes ++ more))
unfolding reply_at
reply_extends more bytes =
    then_extends more _ _ (byte_extends more bytes) (λ kind rest.
    if_extends more (kind == 0) (done_extends more Nobody rest)
    (if_extends more (kind == 3) (then_extends more _ _ (number_extends more w64 rest) (λ n left. done_extends more (Outside n) left))
    (inner_by_extends more bytes kind rest)))

pub handler_extends : (more bytes : List ℕ) → Extends more (handler_at bytes) (handler_at (bytes ++ more))
unfolding handler_at
handler_extends more bytes =
    then_extends more _ _ (number_extends more w16 bytes) (λ behavior r1.
    then_extends more _ _ (number_extends more w16 r1) (λ handler rest. done_extends more (behavior, handler) rest))

pub call_extends : (more bytes : List ℕ) → Extends more (call_at bytes) (call_at (bytes ++ more))
unfolding call_at
call_extends more bytes =
    then_extends more _ _ (made_extends more bytes) (λ m r1.
    then_extends more _ _ (name_extends more r1) (λ n r2.
    then_extends more _ _ (handler_extends more r2) (λ h r3.
    then_extends more _ _ (values_extends more 16 r3) (λ vs r4.
    then_extends more _ _ (reply_extends more r4) (λ r rest. done_extends more (call_of m n h vs r) rest)))))

-- ---- envelopes, after their tags

pub call_envelope_extends : (more bytes : List ℕ) → Extends more (call_envelope_at bytes) (call_envelope_at (bytes ++ more))
unfolding call_envelope_at
call_envelope_extends more bytes =
    then_extends more _ _ (number_extends more w32 bytes) (λ hops r1.
    then_extends more _ _ (call_extends more r1) (λ m rest. done_extends more (envelope.Call hops m) rest))

pub reply_envelope_extends : (more bytes : List ℕ) → Extends more (reply_envelope_at bytes) (reply_envelope_at (bytes ++ more))
unfolding reply_envelope_at
reply_envelope_extends more bytes =
    then_extends more _ _ (number_extends more w32 bytes) (λ hops r1.
    then_extends more _ _ (inner_extends more r1) (λ r r2.
    then_extends more _ _ (value_extends more r2) (λ v rest. done_extends more (envelope.Reply hops r v) rest)))

pub create_extends : (more bytes : List ℕ) → Extends more (create_at bytes) (create_at (bytes ++ more))
unfolding create_at
create_extends more bytes =
    then_extends more _ _ (uan_extends more bytes) (λ n r1.
    then_extends more _ _ (number_extends more w16 r1) (λ behavior r2.
    then_extends more _ _ (values_extends more 255 r2) (λ fields rest. done_extends more (envelope.Create (universal_actor n behavior fields)) rest)))

pub put_extends : (more bytes : List ℕ) → Extends more (put_at bytes) (put_at (bytes ++ more))
unfolding put_at
put_extends more bytes =
    then_extends more _ _ (made_extends more bytes) (λ m r1.
    then_extends more _ _ (uan_extends more r1) (λ n r2.
    then_extends more _ _ (locator_extends more r2) (λ place rest. done_extends more (envelope.Put m.0 m.1 n place) rest)))

pub put_reply_extends : (more bytes : List ℕ) → Extends more (put_reply_at bytes) (put_reply_at (bytes ++ more))
unfolding put_reply_at
put_reply_extends more bytes =
    then_extends more _ _ (made_extends more bytes) (λ m r1.
    then_extends more _ _ (bool_extends more r1) (λ taken rest. done_extends more (envelope.PutReply m.0 m.1 (if taken then false else true)) rest))

pub get_extends : (more bytes : List ℕ) → Extends more (get_at bytes) (get_at (bytes ++ more))
unfolding get_at
get_extends more bytes = then_extends more _ _ (uan_extends more bytes) (λ n rest. done_extends more (envelope.Get n) rest)

moved_extends : (more bytes : List ℕ) → Extends more (moved_at bytes) (moved_at (bytes ++ more))
unfolding moved_at
moved_extends more bytes =
    then_extends more _ _ (locator_extends more bytes) (λ place r1.
    then_extends more _ _ (number_extends more w64 r1) (λ moves rest. done_extends more (place, moves) rest))

found_extends : (more bytes : List ℕ) → Extends more (found_at bytes) (found_at (bytes ++ more))
unfolding found_at
found_extends more bytes =
    then_extends more _ _ (bool_extends more bytes) (λ is_found rest.
    if_extends more is_found (then_extends more _ _ (moved_extends more rest) (λ m left. done_extends more (Some m) left)) (done_extends more None rest))

pub get_reply_extends : (more bytes : List ℕ) → Extends more (get_reply_at bytes) (get_reply_at (bytes ++ more))
unfolding get_reply_at
get_reply_extends more bytes =
    then_extends more _ _ (uan_extends more bytes) (λ n r1.
    then_extends more _ _ (found_extends more r1) (λ found rest. done_extends more (envelope.GetReply n found) rest))

pub update_extends : (more bytes : List ℕ) → Extends more (update_at bytes) (update_at (bytes ++ more))
unfolding update_at
update_extends more bytes =
    then_extends more _ _ (uan_extends more bytes) (λ n r1.
    then_extends more _ _ (moved_extends more r1) (λ m rest. done_extends more (envelope.Update n m.0 m.1) rest))
