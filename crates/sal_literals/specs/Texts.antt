-- Values as texts: as schedules and documents write them.
use Rattle.std.specs.Prelude.{ℕ, zero, suc, ◌/◌, ◌%◌, ◌==◌, nat_lt, Bool, true, false, ◌&&◌, ◌||◌, if◌then◌else◌, List, [], ◌∷◌, ◌++◌, codes}
use Rattle.std.specs.Char.{digit_char}
use Rattle.std.specs.Fmt.{signed_decimal}
use Rattle.std.specs.List.{list_all, flat_map}
use Rattle.std.specs.Str.{is_utf8}
use Rattle.sal_value.specs.declared.value.Value.{Value, fold-Value}
use Rattle.sal_value.specs.declared.value.Value.TheOpen.{Value-F}
use Rattle.sal_value.specs.Names.{name_text}
use Rattle.sal_value.specs.Spelling.{name_is_spelled}
use Rattle.sal_value.specs.Coding.{is_i32, name_in_range}

-- ---- texts in quotes

-- bytes below 32, and 127
abbrev pub is_control : ℕ → Bool
is_control b = nat_lt b 32 || b == 127

-- A byte of a quoted text. `"` and `\` have a backslash before them; line feed, carriage return and tab are
-- `\n`, `\r` and `\t`; other control bytes are `\x` and two hexadecimal digits in lower case; all else stands
-- as it is.
unfoldable pub escape : ℕ → List ℕ
escape b =
    if b == 34 || b == 92 then 92 ∷ b ∷ []
    else if b == 10 then 92 ∷ 110 ∷ []
    else if b == 13 then 92 ∷ 114 ∷ []
    else if b == 9 then 92 ∷ 116 ∷ []
    else if is_control b then 92 ∷ 120 ∷ digit_char (b / 16) ∷ digit_char (b % 16) ∷ []
    else b ∷ []

unfoldable pub quoted_text : List ℕ → List ℕ
quoted_text text = 34 ∷ (flat_map escape text ++ 34 ∷ [])

-- ---- values

-- the first, and each other after a comma
abbrev pub separated : List (List ℕ) → List ℕ
separated [] = []
separated (text ∷ texts) = text ++ flat_map (λ t. 44 ∷ t) texts

-- one value, with the texts of its items in their place
abbrev pub text_step : Value-F (List ℕ) → List ℕ
text_step Value-F.Null = codes "null"
text_step (Value-F.Int n) = signed_decimal n
text_step (Value-F.Bool b) = if b then codes "true" else codes "false"
text_step (Value-F.Str text) = quoted_text text
text_step (Value-F.Array items) = 91 ∷ (separated items ++ 93 ∷ [])
text_step (Value-F.Ref n) = 64 ∷ name_text n

unfoldable pub value_text : Value → List ℕ
value_text = fold-Value (List ℕ) text_step

-- ---- values that can be read

-- a value within its type's range, whose names can be read and with at most so many arrays in one another
abbrev pub literal_step : Value-F (ℕ → Bool) → ℕ → Bool
literal_step Value-F.Null depth = true
literal_step (Value-F.Int n) depth = is_i32 n
literal_step (Value-F.Bool b) depth = true
literal_step (Value-F.Str text) depth = is_utf8 text
literal_step (Value-F.Array items) zero = false
literal_step (Value-F.Array items) (suc depth) = list_all (λ fits. fits depth) items
literal_step (Value-F.Ref n) depth = name_in_range n && name_is_spelled n

unfoldable pub is_literal_at : Value → ℕ → Bool
is_literal_at = fold-Value (ℕ → Bool) literal_step

-- A text of a value has at most 64 arrays in one another, as legal values have. How long its texts and arrays
-- are is no part of its form.
abbrev pub is_literal : Value → Bool
is_literal v = is_literal_at v 64
