-- What is read of a name or value, or is wrong of it, stays so whatever follows.
use Rattle.std.proofs.Common.{◌≡◌, ℕ, zero, suc, ◌-◌, ◌+◌, ◌≤◌, ◌==◌, Bool, true, false, List, [], ◌∷◌, ◌++◌, length, take, drop, Option, Some, None, Result, Ok, Err, refl, sym, ap, subst, ◌∙◌, arith}
use Rattle.std.specs.Prelude.{if◌then◌else◌, nat_lt}
use Rattle.std.specs.Int.{Width, w16, w32, w64, byte_len, from_be_bytes, cast_signed}
use Rattle.std.specs.Str.{is_utf8}
use Rattle.std.proofs.lemmas.Bool.{ltb-false, le-ltb}
use Rattle.std.proofs.lemmas.List.{length-append, take-append-le, drop-append-le}
use Rattle.sal_value.specs.declared.fields.Fault.TheVariants.{Cut, Bad, Memory}
use Rattle.sal_value.specs.declared.name.Name.TheVariants as name
use Rattle.sal_value.specs.declared.name.Uan.{Uan}
use Rattle.sal_value.specs.declared.value.Value.{Value}
use Rattle.sal_value.specs.declared.value.Value.TheVariants as value
use Rattle.sal_value.specs.declared.value.DecodeFault.{DecodeFault}
use Rattle.sal_value.specs.declared.value.DecodeFault.TheVariants as fault
use Rattle.sal_value.specs.Decoding.{Reading, ◌>>=◌, wrong, byte_at, bytes_at, number_at, bool_at, text_at, canonical_uan, uan_or_wrong, uan_at, anon_at, name_at, items_at, count_at, array_at, tagged_at, value_at, with_offset, decoded_name, decoded_value}

-- what the second reading says of the same bytes and more, by what the first says
abbrev Keeps : {A : Type 0} → List ℕ → Reading A → Reading A → Type 0
Keeps more (Ok x) s = s ≡ Ok (x.0, x.1 ++ more)
Keeps more (Err Cut) s = Unit {0}
Keeps more (Err (Bad left)) s = s ≡ Err (Bad (left + length more))
Keeps more (Err Memory) s = s ≡ Err Memory

record Extends {A : Type 0} (more : List ℕ) (r s : Reading A) : Type 0 where
  fact : Keeps more r s

then_extends : {A B : Type 0} {r s : Reading A} (more : List ℕ) (f g : A × List ℕ → Reading B)
    → Extends more r s → ((x : A) (rest : List ℕ) → Extends more (f (x, rest)) (g (x, rest ++ more))) → Extends more (r >>= f) (s >>= g)
then_extends {A} {B} {r} {s} more f g h k = go r s h k
  where
    go : (r s : Reading A) → Extends more r s → ((x : A) (rest : List ℕ) → Extends more (f (x, rest)) (g (x, rest ++ more))) → Extends more (r >>= f) (s >>= g)
    go (Ok x) s h k = subst (λ z. Extends more (f x) (z >>= g)) (sym h.fact) (k x.0 x.1)
    go (Err Cut) s h k = record { fact = tt }
    go (Err (Bad left)) s h k = record { fact = ap (λ z. z >>= g) h.fact }
    go (Err Memory) s h k = record { fact = ap (λ z. z >>= g) h.fact }

done_extends : {A : Type 0} (more : List ℕ) (x : A) (rest : List ℕ) → Extends more (Ok (x, rest)) (Ok (x, rest ++ more))
done_extends more x rest = record { fact = refl }

cut_extends : {A : Type 0} (more : List ℕ) (s : Reading A) → Extends more (Err Cut) s
cut_extends more s = record { fact = tt }

wrong_extends : {A : Type 0} (more field : List ℕ) → Extends more (wrong {A = A} field) (wrong (field ++ more))
wrong_extends more field = record { fact = ap (λ n. Err (Bad n)) (length-append field more) }

if_extends : {A : Type 0} {r r' s s' : Reading A} (more : List ℕ) (b : Bool) → Extends more r r' → Extends more s s' → Extends more (if b then r else s) (if b then r' else s')
if_extends more true h k = h
if_extends more false h k = k

-- ---- fields

byte_extends : (more bytes : List ℕ) → Extends more (byte_at bytes) (byte_at (bytes ++ more))
byte_extends more [] = cut_extends more _
byte_extends more (b ∷ rest) = done_extends more b rest

bytes_extends : (more : List ℕ) (n : ℕ) (bytes : List ℕ) → Extends more (bytes_at n bytes) (bytes_at n (bytes ++ more))
unfolding bytes_at
bytes_extends more n bytes = by_length (nat_lt (length bytes) n) refl
  where
    by_length : (b : Bool) → nat_lt (length bytes) n ≡ b
        → Extends more (if b then Err Cut else Ok (take n bytes, drop n bytes)) (if nat_lt (length (bytes ++ more)) n then Err Cut else Ok (take n (bytes ++ more), drop n (bytes ++ more)))
    by_length true e = cut_extends more _
    by_length false e =
        let fits : n ≤ length bytes = ltb-false _ _ e in
        let enough : nat_lt (length (bytes ++ more)) n ≡ false = le-ltb _ _ (omega (arith, length-append bytes more)) in
        record { fact = rw (enough, take-append-le n bytes more fits, drop-append-le n bytes more fits) refl }

number_extends : (more : List ℕ) (w : Width) (bytes : List ℕ) → Extends more (number_at w bytes) (number_at w (bytes ++ more))
unfolding number_at
number_extends more w bytes = then_extends more _ _ (bytes_extends more (byte_len w) bytes) (λ t rest. done_extends more (from_be_bytes w t) rest)

bool_extends : (more bytes : List ℕ) → Extends more (bool_at bytes) (bool_at (bytes ++ more))
unfolding bool_at
bool_extends more bytes =
    then_extends more _ _ (byte_extends more bytes) (λ b rest.
    if_extends more (b == 0) (done_extends more false rest) (if_extends more (b == 1) (done_extends more true rest) (wrong_extends more bytes)))

text_extends : (more bytes : List ℕ) → Extends more (text_at bytes) (text_at (bytes ++ more))
unfolding text_at
text_extends more bytes =
    then_extends more _ _ (number_extends more w16 bytes) (λ n r1.
    if_extends more (nat_lt 4096 n) (wrong_extends more bytes)
    (then_extends more _ _ (bytes_extends more n r1) (λ t rest. if_extends more (is_utf8 t) (done_extends more t rest) (wrong_extends more r1))))

-- ---- names

or_wrong_extends : (more text rest : List ℕ) (o : Option Uan) → Extends more (uan_or_wrong text rest o) (uan_or_wrong (text ++ more) (rest ++ more) o)
or_wrong_extends more text rest None = wrong_extends more text
or_wrong_extends more text rest (Some u) = done_extends more u rest

uan_extends : (more bytes : List ℕ) → Extends more (uan_at bytes) (uan_at (bytes ++ more))
unfolding uan_at
uan_extends more bytes =
    then_extends more _ _ (number_extends more w16 bytes) (λ n r1.
    then_extends more _ _ (bytes_extends more n r1) (λ t rest. or_wrong_extends more r1 rest (canonical_uan t)))

anon_extends : (more bytes : List ℕ) → Extends more (anon_at bytes) (anon_at (bytes ++ more))
unfolding anon_at
anon_extends more bytes =
    then_extends more _ _ (number_extends more w32 bytes) (λ theatre r1.
    then_extends more _ _ (number_extends more w64 r1) (λ number rest. done_extends more (name.Anon theatre number) rest))

name_extends : (more bytes : List ℕ) → Extends more (name_at bytes) (name_at (bytes ++ more))
unfolding name_at
name_extends more bytes =
    then_extends more _ _ (byte_extends more bytes) (λ tag rest.
    if_extends more (tag == 0) (anon_extends more rest)
    (if_extends more (tag == 1) (then_extends more _ _ (uan_extends more rest) (λ u left. done_extends more (name.Uan u) left))
    (if_extends more (tag == 2) (then_extends more _ _ (number_extends more w64 rest) (λ n left. done_extends more (name.Outside n) left))
    (wrong_extends more bytes))))

-- ---- values

items_extends : (more : List ℕ) (item : List ℕ → Reading Value) → ((bytes : List ℕ) → Extends more (item bytes) (item (bytes ++ more)))
    → (n : ℕ) (bytes : List ℕ) → Extends more (items_at item n bytes) (items_at item n (bytes ++ more))
items_extends more item items zero bytes = done_extends more [] bytes
items_extends more item items (suc n) bytes =
    then_extends more _ _ (items bytes) (λ first r1.
    then_extends more _ _ (items_extends more item items n r1) (λ others rest. done_extends more (first ∷ others) rest))

count_extends : (more bytes : List ℕ) → Extends more (count_at bytes) (count_at (bytes ++ more))
unfolding count_at
count_extends more bytes =
    then_extends more _ _ (number_extends more w16 bytes) (λ n rest. if_extends more (nat_lt 4096 n) (wrong_extends more bytes) (done_extends more n rest))

array_extends : (more : List ℕ) (item : List ℕ → Reading Value) → ((bytes : List ℕ) → Extends more (item bytes) (item (bytes ++ more)))
    → (bytes : List ℕ) → Extends more (array_at item bytes) (array_at item (bytes ++ more))
unfolding array_at
array_extends more item items bytes =
    then_extends more _ _ (count_extends more bytes) (λ n r1.
    then_extends more _ _ (items_extends more item items n r1) (λ vs rest. done_extends more (value.Array vs) rest))

tagged_extends : (more : List ℕ) (array longer : List ℕ → Reading Value) → ((rest : List ℕ) → Extends more (array rest) (longer (rest ++ more)))
    → (bytes : List ℕ) → Extends more (tagged_at array bytes) (tagged_at longer (bytes ++ more))
unfolding tagged_at
tagged_extends more array longer arrays bytes =
    then_extends more _ _ (byte_extends more bytes) (λ tag rest.
    if_extends more (tag == 0) (done_extends more value.Null rest)
    (if_extends more (tag == 1) (then_extends more _ _ (number_extends more w32 rest) (λ n left. done_extends more (value.Int (cast_signed w32 n)) left))
    (if_extends more (tag == 2) (then_extends more _ _ (bool_extends more rest) (λ b left. done_extends more (value.Bool b) left))
    (if_extends more (tag == 3) (then_extends more _ _ (text_extends more rest) (λ t left. done_extends more (value.Str t) left))
    (if_extends more (tag == 4) (arrays rest)
    (if_extends more (tag == 5) (then_extends more _ _ (name_extends more rest) (λ n left. done_extends more (value.Ref n) left))
    (wrong_extends more bytes)))))))

value_extends : (more : List ℕ) (depth : ℕ) (bytes : List ℕ) → Extends more (value_at depth bytes) (value_at depth (bytes ++ more))
unfolding value_at
value_extends more zero bytes = tagged_extends more (λ rest. wrong bytes) (λ rest. wrong (bytes ++ more)) (λ rest. wrong_extends more bytes) bytes
value_extends more (suc depth) bytes =
    tagged_extends more (array_at (value_at depth)) (array_at (value_at depth)) (λ rest. array_extends more (value_at depth) (value_extends more depth) rest) bytes

-- ---- with places

-- what is said of bytes is said of more, unless they are cut
abbrev pub StaysSo : {A : Type 0} → Result (A × ℕ) DecodeFault → Result (A × ℕ) DecodeFault → Type 0
StaysSo (Ok x) s = s ≡ Ok x
StaysSo (Err fault.Cut) s = Unit {0}
StaysSo (Err (fault.Bad place)) s = s ≡ Err (fault.Bad place)
StaysSo (Err fault.Memory) s = s ≡ Err fault.Memory

offset_stays : {A : Type 0} (bytes more : List ℕ) (r s : Reading A) → Extends more r s → StaysSo (with_offset bytes r) (with_offset (bytes ++ more) s)
offset_stays bytes more (Ok x) s h =
    let size : length (bytes ++ more) - length (x.1 ++ more) ≡ length bytes - length x.1 = omega (arith, length-append bytes more, length-append x.1 more) in
    ap (with_offset (bytes ++ more)) h.fact ∙ ap (λ n. Ok (x.0, n)) size
offset_stays bytes more (Err Cut) s h = tt
offset_stays bytes more (Err (Bad left)) s h =
    let place : length (bytes ++ more) - (left + length more) ≡ length bytes - left = omega (arith, length-append bytes more) in
    ap (with_offset (bytes ++ more)) h.fact ∙ ap (λ n. Err (fault.Bad n)) place
offset_stays bytes more (Err Memory) s h = ap (with_offset (bytes ++ more)) h.fact

pub name_stays : (bytes more : List ℕ) → StaysSo (decoded_name bytes) (decoded_name (bytes ++ more))
unfolding decoded_name
name_stays bytes more = offset_stays bytes more (name_at bytes) (name_at (bytes ++ more)) (name_extends more bytes)

pub value_stays : (bytes more : List ℕ) → StaysSo (decoded_value bytes) (decoded_value (bytes ++ more))
unfolding decoded_value
value_stays bytes more = offset_stays bytes more (value_at 64 bytes) (value_at 64 (bytes ++ more)) (value_extends more 64 bytes)

-- the place of a fault is within the bytes
place_fits : {A : Type 0} (bytes : List ℕ) (r : Reading A) (place : ℕ) → with_offset bytes r ≡ Err (fault.Bad place) → place ≤ length bytes
place_fits bytes (Ok x) place e = absurd cc
place_fits {A} bytes (Err (Bad left)) place e =
    let told : Result (A × ℕ) DecodeFault = Err (fault.Bad (length bytes - left)) in
    let is : Result (A × ℕ) DecodeFault = Err (fault.Bad place) in
    let same : told ≡ is = e in
    let at : length bytes - left ≡ place = cc in
    omega arith
place_fits bytes (Err Cut) place e = absurd cc
place_fits bytes (Err Memory) place e = absurd cc

pub name_place_fits : (bytes : List ℕ) (place : ℕ) → decoded_name bytes ≡ Err (fault.Bad place) → place ≤ length bytes
unfolding decoded_name
name_place_fits bytes place e = place_fits bytes (name_at bytes) place e

pub value_place_fits : (bytes : List ℕ) (place : ℕ) → decoded_value bytes ≡ Err (fault.Bad place) → place ≤ length bytes
unfolding decoded_value
value_place_fits bytes place e = place_fits bytes (value_at 64 bytes) place e
