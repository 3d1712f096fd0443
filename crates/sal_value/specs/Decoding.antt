-- Reading names and values from bytes, field by field.
use Rattle.std.specs.Prelude.{ℕ, zero, suc, ◌-◌, ◌==◌, nat_lt, Bool, true, false, ◌&&◌, if◌then◌else◌, List, [], ◌∷◌, length, take, drop, Option, Some, None, Result, Ok, Err}
use Rattle.std.specs.Int.{Width, w16, w32, w64, byte_len, from_be_bytes, cast_signed}
use Rattle.std.specs.List.{before_first, after_first}
use Rattle.std.specs.Str.{is_utf8, bytes_eq}
use Rattle.std.specs.Str.Parse.{digits_value}
use Rattle.sal_value.specs.declared.fields.Fault.{Fault}
use Rattle.sal_value.specs.declared.fields.Fault.TheVariants.{Cut, Bad, Memory}
use Rattle.sal_value.specs.declared.name.Name.{Name}
use Rattle.sal_value.specs.declared.name.Name.TheVariants as name
use Rattle.sal_value.specs.declared.name.Uan.{Uan}
use Rattle.sal_value.specs.declared.value.DecodeFault.{DecodeFault}
use Rattle.sal_value.specs.declared.value.DecodeFault.TheVariants as fault
use Rattle.sal_value.specs.declared.value.Value.{Value}
use Rattle.sal_value.specs.declared.value.Value.TheVariants as value
use Rattle.sal_value.specs.Names.{uan_text, is_uan, is_colon, is_slash}

-- What is read at the front of some bytes, and the bytes after it.
abbrev pub Reading : Type 0 → Type 0
Reading A = Result (A × List ℕ) Fault

infixl 10 ◌>>=◌
abbrev pub ◌>>=◌ : {A B : Type 0} → Reading A → (A × List ℕ → Reading B) → Reading B
(Ok x) >>= f = f x
(Err e) >>= f = Err e

-- the field with which these bytes begin is wrong
abbrev pub wrong : {A : Type 0} → List ℕ → Reading A
wrong field = Err (Bad (length field))

-- ---- fields

-- so many bytes
unfoldable pub bytes_at : ℕ → List ℕ → Reading (List ℕ)
bytes_at n bytes = if nat_lt (length bytes) n then Err Cut else Ok (take n bytes, drop n bytes)

abbrev pub byte_at : List ℕ → Reading ℕ
byte_at [] = Err Cut
byte_at (b ∷ rest) = Ok (b, rest)

unfoldable pub number_at : Width → List ℕ → Reading ℕ
number_at w bytes = do
  n ← bytes_at (byte_len w) bytes
  Ok (from_be_bytes w n.0, n.1)

-- 0 or 1
unfoldable pub bool_at : List ℕ → Reading Bool
bool_at bytes = do
  b ← byte_at bytes
  if b.0 == 0 then Ok (false, b.1) else if b.0 == 1 then Ok (true, b.1) else wrong bytes

-- a length of at most 4,096, and so many bytes of UTF-8
unfoldable pub text_at : List ℕ → Reading (List ℕ)
text_at bytes = do
  n ← number_at w16 bytes
  if nat_lt 4096 n.0 then wrong bytes else do
    t ← bytes_at n.0 n.1
    if is_utf8 t.0 then Ok t else wrong n.1

-- ---- names

-- the host to the first `:`, the port from there to the next `/`, and the path
abbrev pub cut_uan : List ℕ → Uan
cut_uan text =
    let address = drop 6 text in
    let rest = after_first is_colon address in
    record { host = before_first is_colon address; port = digits_value 10 (before_first is_slash rest); path = after_first is_slash rest }

-- the good name whose canonical text it is
unfoldable pub canonical_uan : List ℕ → Option Uan
canonical_uan text = if is_uan (cut_uan text) && bytes_eq (uan_text (cut_uan text)) text then Some (cut_uan text) else None

-- this name, or the text is wrong
abbrev pub uan_or_wrong : List ℕ → List ℕ → Option Uan → Reading Uan
uan_or_wrong text rest None = wrong text
uan_or_wrong text rest (Some u) = Ok (u, rest)

-- a length, and so many bytes of a canonical text
unfoldable pub uan_at : List ℕ → Reading Uan
uan_at bytes = do
  n ← number_at w16 bytes
  t ← bytes_at n.0 n.1
  uan_or_wrong n.1 t.1 (canonical_uan t.0)

unfoldable pub anon_at : List ℕ → Reading Name
anon_at bytes = do
  theatre ← number_at w32 bytes
  number ← number_at w64 theatre.1
  Ok (name.Anon theatre.0 number.0, number.1)

unfoldable pub name_at : List ℕ → Reading Name
name_at bytes = do
  tag ← byte_at bytes
  if tag.0 == 0 then anon_at tag.1
      else if tag.0 == 1 then (uan_at tag.1 >>= λ u. Ok (name.Uan u.0, u.1))
      else if tag.0 == 2 then (number_at w64 tag.1 >>= λ n. Ok (name.Outside n.0, n.1))
      else wrong bytes

-- ---- values

-- so many items, one after the other
abbrev pub items_at : (List ℕ → Reading Value) → ℕ → List ℕ → Reading (List Value)
items_at item zero bytes = Ok ([], bytes)
items_at item (suc n) bytes = do
  first ← item bytes
  others ← items_at item n first.1
  Ok (first.0 ∷ others.0, others.1)

-- at most 4,096
unfoldable pub count_at : List ℕ → Reading ℕ
count_at bytes = do
  count ← number_at w16 bytes
  if nat_lt 4096 count.0 then wrong bytes else Ok count

-- a count, and so many items
unfoldable pub array_at : (List ℕ → Reading Value) → List ℕ → Reading Value
array_at item bytes = do
  count ← count_at bytes
  items ← items_at item count.0 count.1
  Ok (value.Array items.0, items.1)

-- a value by its tag, where this reads an array
unfoldable pub tagged_at : (List ℕ → Reading Value) → List ℕ → Reading Value
tagged_at array bytes = do
  tag ← byte_at bytes
  if tag.0 == 0 then Ok (value.Null, tag.1)
      else if tag.0 == 1 then (number_at w32 tag.1 >>= λ n. Ok (value.Int (cast_signed w32 n.0), n.1))
      else if tag.0 == 2 then (bool_at tag.1 >>= λ b. Ok (value.Bool b.0, b.1))
      else if tag.0 == 3 then (text_at tag.1 >>= λ t. Ok (value.Str t.0, t.1))
      else if tag.0 == 4 then array tag.1
      else if tag.0 == 5 then (name_at tag.1 >>= λ n. Ok (value.Ref n.0, n.1))
      else wrong bytes

-- whether the tag is that of an array
abbrev pub is_array : List ℕ → Bool
is_array [] = false
is_array (tag ∷ rest) = tag == 4

-- A value with at most so many arrays in one another. One array more is wrong at its tag.
unfoldable pub value_at : ℕ → List ℕ → Reading Value
value_at zero bytes = tagged_at (λ rest. wrong bytes) bytes
value_at (suc depth) bytes = tagged_at (array_at (value_at depth)) bytes

-- ---- with places

-- a fault with the place of the field that is wrong
abbrev pub fault_with_offset : Fault → ℕ → DecodeFault
fault_with_offset Cut size = fault.Cut
fault_with_offset (Bad left) size = fault.Bad (size - left)
fault_with_offset Memory size = fault.Memory

-- What was read and how many bytes it takes, or the fault with its place.
abbrev pub with_offset : {A : Type 0} → List ℕ → Reading A → Result (A × ℕ) DecodeFault
with_offset bytes (Ok x) = Ok (x.0, length bytes - length x.1)
with_offset bytes (Err f) = Err (fault_with_offset f (length bytes))

unfoldable pub decoded_value : List ℕ → Result (Value × ℕ) DecodeFault
decoded_value bytes = with_offset bytes (value_at 64 bytes)

unfoldable pub decoded_name : List ℕ → Result (Name × ℕ) DecodeFault
decoded_name bytes = with_offset bytes (name_at bytes)
