-- Texts in quotes, read byte by byte.
use Rattle.std.specs.Prelude.{ℕ, ◌+◌, ◌-◌, ◌*◌, ◌==◌, nat_le, Bool, ◌&&◌, ◌||◌, not, if◌then◌else◌, List, [], ◌∷◌, ◌++◌, Option, Some, None}
use Rattle.std.specs.Str.{is_utf8}
use Rattle.sal_literals.specs.declared.quoted.Position.{Position}
use Rattle.sal_literals.specs.declared.quoted.Position.TheVariants.{Plain, Slash, Hex, Low}
use Rattle.sal_literals.specs.declared.quoted.Scan.{Scan}
use Rattle.sal_literals.specs.declared.quoted.Scan.TheVariants.{Moves, Gives, Ends, Fails}
use Rattle.sal_literals.specs.Texts.{is_control}

-- What is read at the front of some bytes, and the bytes after it.
abbrev pub Reading : Type 0 → Type 0
Reading A = Option (A × List ℕ)

infixl 10 ◌>>=◌
abbrev pub ◌>>=◌ : {A B : Type 0} → Reading A → (A × List ℕ → Reading B) → Reading B
(Some x) >>= f = f x
None >>= f = None

-- the value of a hexadecimal digit in lower case
abbrev pub hex_value : ℕ → Option ℕ
hex_value b = if nat_le 48 b && nat_le b 57 then Some (b - 48) else if nat_le 97 b && nat_le b 102 then Some (b - 87) else None

-- the control bytes that have no letter of their own
abbrev pub is_in_hex : ℕ → Bool
is_in_hex b = is_control b && not (b == 9 || b == 10 || b == 13)

-- after the first digit, and after the second
abbrev pub after_high : Option ℕ → Scan
after_high None = Fails
after_high (Some digit) = Moves (Low digit)

abbrev pub after_low : ℕ → Option ℕ → Scan
after_low high None = Fails
after_low high (Some digit) = if is_in_hex (16 * high + digit) then Gives (16 * high + digit) else Fails

-- what the next byte does
unfoldable pub scan_step : Position → ℕ → Scan
scan_step Plain b = if b == 34 then Ends else if b == 92 then Moves Slash else if is_control b then Fails else Gives b
scan_step Slash b =
    if b == 120 then Moves Hex else if b == 34 || b == 92 then Gives b
    else if b == 110 then Gives 10 else if b == 114 then Gives 13 else if b == 116 then Gives 9 else Fails
scan_step Hex b = after_high (hex_value b)
scan_step (Low high) b = after_low high (hex_value b)

-- these bytes, and what is read after them
abbrev pub after_text : List ℕ → Reading (List ℕ) → Reading (List ℕ)
after_text front read = read >>= λ x. Some (front ++ x.0, x.1)

abbrev pub scan_on : (Position → Reading (List ℕ)) → List ℕ → Scan → Reading (List ℕ)
scan_on more rest (Moves to) = more to
scan_on more rest (Gives b) = after_text (b ∷ []) (more Plain)
scan_on more rest Ends = Some ([], rest)
scan_on more rest Fails = None

-- the bytes of the text up to the closing quote
abbrev pub scan_at : Position → List ℕ → Reading (List ℕ)
scan_at at [] = None
scan_at at (b ∷ rest) = scan_on (λ to. scan_at to rest) rest (scan_step at b)

-- a text after its opening quote; it is UTF-8
unfoldable pub quoted_at : List ℕ → Reading (List ℕ)
quoted_at bytes = do
  text ← scan_at Plain bytes
  if is_utf8 text.0 then Some text else None
