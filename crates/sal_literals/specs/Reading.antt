-- Reading values from texts.
use Rattle.std.specs.Prelude.{ℕ, zero, suc, ◌-◌, ◌^◌, ◌==◌, nat_lt, nat_le, ℤ, pos, negsuc, Bool, true, false, ◌&&◌, ◌||◌, if◌then◌else◌, List, [], ◌∷◌, length, take, drop, codes, Option, Some, None}
use Rattle.std.specs.Fmt.{decimal}
use Rattle.std.specs.Option.{option_map}
use Rattle.std.specs.Str.{bytes_eq}
use Rattle.std.specs.Str.Parse.{digits_value}
use Rattle.sal_value.specs.declared.name.Name.{Name}
use Rattle.sal_value.specs.declared.name.Name.TheVariants as name
use Rattle.sal_value.specs.declared.value.Value.{Value}
use Rattle.sal_value.specs.declared.value.Value.TheVariants as value
use Rattle.sal_value.specs.Names.{until, from_first, is_colon, uan_of}
use Rattle.sal_value.specs.Decoding.{canonical_uan}
use Rattle.sal_literals.specs.code.Scanning.{Reading, ◌>>=◌, quoted_at}

-- ---- numbers

-- the number below 2^64 that has this decimal text
unfoldable pub number_of : List ℕ → Option ℕ
number_of digits =
    if nat_lt (digits_value 10 digits) (2 ^ 64) && bytes_eq (decimal (digits_value 10 digits)) digits
    then Some (digits_value 10 digits) else None

abbrev pub not_negative : Option ℕ → Option ℤ
not_negative None = None
not_negative (Some n) = if nat_lt n (2 ^ 31) then Some (pos n) else None

-- less than 0
abbrev pub negative : Option ℕ → Option ℤ
negative None = None
negative (Some n) = if nat_le 1 n && nat_le n (2 ^ 31) then Some (negsuc (n - 1)) else None

-- the number of 32 bits that has this decimal text, with `-` where it is less than 0
unfoldable pub int_of : List ℕ → Option ℤ
int_of [] = None
int_of (sign ∷ digits) = if sign == 45 then negative (number_of digits) else not_negative (number_of (sign ∷ digits))

-- ---- names

-- what stands after these bytes
abbrev pub after_prefix : List ℕ → List ℕ → Option (List ℕ)
after_prefix prefix text = if bytes_eq (take (length prefix) text) prefix then Some (drop (length prefix) text) else None

abbrev pub anon_of : Option ℕ → Option ℕ → Option Name
anon_of None number = None
anon_of (Some theatre) None = None
anon_of (Some theatre) (Some number) = if nat_lt theatre (2 ^ 32) then Some (name.Anon theatre number) else None

abbrev pub name_by : List ℕ → Option (List ℕ) → Option (List ℕ) → Option Name
name_by text (Some rest) outside = anon_of (number_of (until is_colon rest)) (number_of (drop 1 (from_first is_colon rest)))
name_by text None (Some digits) = option_map name.Outside (number_of digits)
name_by text None None = option_map name.Uan (canonical_uan text)

-- the name that has this text
unfoldable pub name_of : List ℕ → Option Name
name_of text = name_by text (after_prefix (codes "anon:") text) (after_prefix (codes "outside:") text)

-- the universal name that this text writes, canonical or not
unfoldable pub schedule_name_of : List ℕ → Option Name
schedule_name_of text = option_map name.Uan (uan_of text)

-- ---- values

-- what ends a number, a name or a word: the comma or the bracket after an item
abbrev pub ends_word : ℕ → Bool
ends_word b = b == 44 || b == 93

-- a reference or a number
abbrev pub scalar_of : (List ℕ → Option Name) → List ℕ → Option Value
scalar_of names [] = None
scalar_of names (sign ∷ rest) = if sign == 64 then option_map value.Ref (names rest) else option_map value.Int (int_of (sign ∷ rest))

-- a value that is no text and no array
unfoldable pub word_value : (List ℕ → Option Name) → List ℕ → Option Value
word_value names word =
    if bytes_eq word (codes "null") then Some value.Null
    else if bytes_eq word (codes "true") then Some (value.Bool true)
    else if bytes_eq word (codes "false") then Some (value.Bool false)
    else scalar_of names word

abbrev pub with_rest : {A : Type 0} → List ℕ → Option A → Reading A
with_rest rest o = option_map (λ x. (x, rest)) o

-- a value that is no array, at the front of the bytes
unfoldable pub flat_at : (List ℕ → Option Name) → List ℕ → Reading Value
flat_at names [] = None
flat_at names (sign ∷ rest) =
    if sign == 34 then (quoted_at rest >>= λ text. Some (value.Str text.0, text.1))
    else with_rest (from_first ends_word (sign ∷ rest)) (word_value names (until ends_word (sign ∷ rest)))

-- whether the array ends after an item
unfoldable pub separator_at : List ℕ → Reading Bool
separator_at [] = None
separator_at (sign ∷ rest) = if sign == 93 then Some (true, rest) else if sign == 44 then Some (false, rest) else None

-- at most so many items, and the bracket after them
abbrev pub items_at : (List ℕ → Reading Value) → ℕ → List ℕ → Reading (List Value)
items_at item zero bytes = None
items_at item (suc n) bytes = do
  first ← item bytes
  ends ← separator_at first.1
  if ends.0 then Some (first.0 ∷ [], ends.1) else do
    others ← items_at item n ends.1
    Some (first.0 ∷ others.0, others.1)

-- the bytes begin with `]`
abbrev pub is_closed : List ℕ → Bool
is_closed [] = false
is_closed (sign ∷ rest) = sign == 93

-- an array after its bracket; it has no more items than bytes follow
unfoldable pub array_at : (List ℕ → Reading Value) → List ℕ → Reading Value
array_at item bytes =
    if is_closed bytes then Some (value.Array [], drop 1 bytes)
    else (items_at item (length bytes) bytes >>= λ items. Some (value.Array items.0, items.1))

-- the bytes begin with `[`
abbrev pub is_array : List ℕ → Bool
is_array [] = false
is_array (sign ∷ rest) = sign == 91

-- a value, where this reads what stands after the bracket of an array
unfoldable pub value_by : (List ℕ → Option Name) → (List ℕ → Reading Value) → List ℕ → Reading Value
value_by names array bytes = if is_array bytes then array (drop 1 bytes) else flat_at names bytes

-- a value with at most so many arrays in one another
unfoldable pub value_at : (List ℕ → Option Name) → ℕ → List ℕ → Reading Value
value_at names zero = value_by names (λ _. None)
value_at names (suc depth) = value_by names (array_at (value_at names depth))

-- what was read, where nothing is left
abbrev pub if_whole : {A : Type 0} → Reading A → Option A
if_whole None = None
if_whole (Some (x, [])) = Some x
if_whole (Some (x, b ∷ rest)) = None

-- the value that has this text
unfoldable pub value_of : List ℕ → Option Value
value_of text = if_whole (value_at name_of 64 text)

-- the value that this text writes in a schedule, where each reference is a universal name in any of its spellings
unfoldable pub schedule_value_of : List ℕ → Option Value
schedule_value_of text = if_whole (value_at schedule_name_of 64 text)
