-- Laws of encoding and decoding.
use Rattle.std.specs.Prelude.{◌≡◌, ℕ, ◌≤◌, ◌<◌, ◌^◌, nat_lt, ℤ, pos, negsuc, Bool, true, ◌&&◌, List, ◌++◌, length, take, slice_index, IsTrue, Ok}
use Rattle.std.specs.List.{list_all}
use Rattle.std.specs.Str.{is_utf8}
use Rattle.sal_value.specs.declared.name.Name.{Name}
use Rattle.sal_value.specs.declared.name.Name.TheVariants as name
use Rattle.sal_value.specs.declared.value.Value.{Value, fold-Value}
use Rattle.sal_value.specs.declared.value.Value.TheOpen.{Value-F}
use Rattle.sal_value.specs.Spelling.{name_spelling, name_is_spelled, spelling, is_spelled}
use Rattle.sal_value.specs.Decoding.{decoded_name, decoded_value}

-- ---- the names and values that the program's types hold

abbrev pub is_i32 : ℤ → Bool
is_i32 (pos n) = nat_lt n (2 ^ 31)
is_i32 (negsuc n) = nat_lt n (2 ^ 31)

unfoldable pub name_in_range : Name → Bool
name_in_range (name.Uan u) = true
name_in_range (name.Anon theatre number) = nat_lt theatre (2 ^ 32) && nat_lt number (2 ^ 64)
name_in_range (name.Outside number) = nat_lt number (2 ^ 64)

-- numbers are in their types' ranges, and texts are UTF-8
abbrev pub range_step : Value-F Bool → Bool
range_step Value-F.Null = true
range_step (Value-F.Int n) = is_i32 n
range_step (Value-F.Bool b) = true
range_step (Value-F.Str text) = is_utf8 text
range_step (Value-F.Array items) = list_all (λ item. item) items
range_step (Value-F.Ref n) = name_in_range n

unfoldable pub in_range : Value → Bool
in_range = fold-Value Bool range_step

-- numbers below 256
abbrev pub IsBytes : List ℕ → Type 0
IsBytes bytes = (i : ℕ) → slice_index bytes i < 256

-- ---- the laws

-- What is decoded has a spelling, and it is the bytes that were read. A spelling is decoded, whatever follows it.
pub record ValuesAreDecoded : Type 0 where
  pub found : (bytes : List ℕ) (v : Value) (n : ℕ) → IsBytes bytes → decoded_value bytes ≡ Ok (v, n)
      → IsTrue (is_spelled v) × (n ≤ length bytes) × (take n bytes ≡ spelling v)
  pub again : (v : Value) (rest : List ℕ) → IsTrue (in_range v) → IsTrue (is_spelled v)
      → decoded_value (spelling v ++ rest) ≡ Ok (v, length (spelling v))

-- the same of names
pub record NamesAreDecoded : Type 0 where
  pub found : (bytes : List ℕ) (n : Name) (k : ℕ) → IsBytes bytes → decoded_name bytes ≡ Ok (n, k)
      → IsTrue (name_is_spelled n) × (k ≤ length bytes) × (take k bytes ≡ name_spelling n)
  pub again : (n : Name) (rest : List ℕ) → IsTrue (name_in_range n) → IsTrue (name_is_spelled n)
      → decoded_name (name_spelling n ++ rest) ≡ Ok (n, length (name_spelling n))
