-- How a schedule is cut into lines, and a line into words.
use Rattle.std.specs.Prelude.{ℕ, ◌==◌, Bool, true, false, if◌then◌else◌, List, [], ◌∷◌}
use Rattle.sal_schedule.specs.declared.words.Mode.{Mode}
use Rattle.sal_schedule.specs.declared.words.Mode.TheVariants.{Plain, Quoted, Escaped}

-- the byte before the first of these; where there is none, it is one of its own
abbrev pub before_first : ℕ → List (List ℕ) → List (List ℕ)
before_first b [] = (b ∷ []) ∷ []
before_first b (first ∷ others) = (b ∷ first) ∷ others

-- ---- lines

abbrev pub is_line_feed : ℕ → Bool
is_line_feed b = b == 10

-- Each line ends at its line feed, the last one perhaps at the end of the text.
abbrev pub lines_of : List ℕ → List (List ℕ)
lines_of [] = []
lines_of (b ∷ bytes) = if is_line_feed b then [] ∷ lines_of bytes else before_first b (lines_of bytes)

-- a line that tells nothing: an empty one, and one that begins with `#`
abbrev pub is_skipped : List ℕ → Bool
is_skipped [] = true
is_skipped (b ∷ bytes) = b == 35

-- ---- words

-- what the byte after this one stands in
abbrev pub next_mode : Mode → ℕ → Mode
next_mode Plain b = if b == 34 then Quoted else Plain
next_mode Quoted b = if b == 34 then Plain else if b == 92 then Escaped else Quoted
next_mode Escaped b = Quoted

-- a space outside quotes
abbrev pub separates : Mode → ℕ → Bool
separates Plain b = b == 32
separates Quoted b = false
separates Escaped b = false

-- One space stands between two words. A space inside quotes separates nothing, and inside quotes a backslash
-- takes the next byte with it.
abbrev pub words_from : Mode → List ℕ → List (List ℕ)
words_from mode [] = [] ∷ []
words_from mode (b ∷ bytes) = if separates mode b then [] ∷ words_from Plain bytes else before_first b (words_from (next_mode mode b) bytes)

unfoldable pub words_of : List ℕ → List (List ℕ)
words_of line = words_from Plain line
