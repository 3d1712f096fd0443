-- Values and names on bytes. Numbers have their highest byte first.
use Rattle.std.specs.Prelude.{◌≡◌, ℕ, zero, suc, ◌-◌, Option, Some, None, nat_le, Bool, true, false, ◌&&◌, if◌then◌else◌, List, [], ◌∷◌, ◌++◌, length}
use Rattle.std.specs.Int.{w16, w32, w64, to_be_bytes, cast_unsigned}
use Rattle.std.specs.List.{list_all, concat}
use Rattle.sal_value.specs.declared.name.Name.{Name}
use Rattle.sal_value.specs.declared.name.Name.TheVariants as name
use Rattle.sal_value.specs.declared.value.Value.{Value, fold-Value}
use Rattle.sal_value.specs.declared.value.Value.TheOpen.{Value-F}
use Rattle.sal_value.specs.Names.{uan_text, is_uan}

-- ---- names

-- a text after its length
abbrev pub text_bytes : List ℕ → List ℕ
text_bytes text = to_be_bytes w16 (length text) ++ text

-- a theatre in 4 bytes and a number in 8
unfoldable pub anon_bytes : ℕ → ℕ → List ℕ
anon_bytes theatre number = to_be_bytes w32 theatre ++ to_be_bytes w64 number

unfoldable pub name_spelling : Name → List ℕ
name_spelling (name.Anon theatre number) = 0 ∷ anon_bytes theatre number
name_spelling (name.Uan u) = 1 ∷ text_bytes (uan_text u)
name_spelling (name.Outside number) = 2 ∷ to_be_bytes w64 number

-- a universal name has a spelling where reading gives it
unfoldable pub name_is_spelled : Name → Bool
name_is_spelled (name.Uan u) = is_uan u
name_is_spelled (name.Anon theatre number) = true
name_is_spelled (name.Outside number) = true

-- ---- values

-- one value, with the spellings of its items in their place
abbrev pub spelling_step : Value-F (List ℕ) → List ℕ
spelling_step Value-F.Null = 0 ∷ []
spelling_step (Value-F.Int n) = 1 ∷ to_be_bytes w32 (cast_unsigned w32 n)
spelling_step (Value-F.Bool b) = 2 ∷ (if b then 1 else 0) ∷ []
spelling_step (Value-F.Str text) = 3 ∷ text_bytes text
spelling_step (Value-F.Array items) = 4 ∷ (to_be_bytes w16 (length items) ++ concat items)
spelling_step (Value-F.Ref n) = 5 ∷ name_spelling n

unfoldable pub spelling : Value → List ℕ
spelling = fold-Value (List ℕ) spelling_step

-- Texts of at most 4,096 bytes, arrays of at most 4,096 items, names that have a spelling, and at most so
-- many arrays in one another.
abbrev pub fits_step : Value-F (ℕ → Bool) → ℕ → Bool
fits_step Value-F.Null depth = true
fits_step (Value-F.Int n) depth = true
fits_step (Value-F.Bool b) depth = true
fits_step (Value-F.Str text) depth = nat_le (length text) 4096
fits_step (Value-F.Array items) zero = false
fits_step (Value-F.Array items) (suc depth) = nat_le (length items) 4096 && list_all (λ fits. fits depth) items
fits_step (Value-F.Ref n) depth = name_is_spelled n

unfoldable pub fits : Value → ℕ → Bool
fits = fold-Value (ℕ → Bool) fits_step

-- it keeps them, however deep
pub record FitsSomeDepth (v : Value) : Type 0 where
  pub depth : ℕ
  pub fits : fits v depth ≡ true

-- a value has a spelling where it keeps these limits, with 64 arrays in one another
abbrev pub is_spelled : Value → Bool
is_spelled v = fits v 64

-- a value is legal where it has a spelling of at most 65,536 bytes
unfoldable pub is_legal : Value → Bool
is_legal v = is_spelled v && nat_le (length (spelling v)) 65536

-- the size of a legal value, and one more than the greatest of any other
unfoldable pub size : Value → ℕ
size v = if is_legal v then length (spelling v) else 65537

-- ---- what is left of a room

-- what so many bytes leave of a room, if they may stand there
abbrev pub room_left : Bool → ℕ → ℕ → Option ℕ
room_left good taken room = if good && nat_le taken room then Some (room - taken) else None

-- what a name's spelling leaves
unfoldable pub room_after_name : Name → ℕ → Option ℕ
room_after_name n room = room_left (name_is_spelled n) (length (name_spelling n)) room

-- what the spelling of a value leaves, of which at most so many arrays may stand in one another
unfoldable pub room_after : Value → ℕ → ℕ → Option ℕ
room_after v depth room = room_left (fits v depth) (length (spelling v)) room
