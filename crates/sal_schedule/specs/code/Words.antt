-- The first word of a line and what follows it, which only the code's own proofs speak of.
use Rattle.std.specs.Prelude.{◌≡◌, ℕ, ◌+◌, ◌<◌, if◌then◌else◌, List, [], ◌∷◌, take, drop, length, Option, Some, None}
use Rattle.std.specs.Option.{option_copied}
use denote.Ref.{Bor}
use Rattle.sal_schedule.specs.declared.words.Mode.{Mode}
use Rattle.sal_schedule.specs.declared.words.Mode.TheVariants.{Plain}
use Rattle.sal_schedule.specs.Lines.{next_mode, separates, words_of}

-- the bytes before the first space that separates
abbrev pub first_word : Mode → List ℕ → List ℕ
first_word mode [] = []
first_word mode (b ∷ bytes) = if separates mode b then [] else b ∷ first_word (next_mode mode b) bytes

-- the bytes after it
abbrev pub after_word : Mode → List ℕ → Option (List ℕ)
after_word mode [] = None
after_word mode (b ∷ bytes) = if separates mode b then Some bytes else after_word (next_mode mode b) bytes

-- the words of what is left of a line, if anything is left
abbrev pub words_left : Option (List ℕ) → List (List ℕ)
words_left None = []
words_left (Some bytes) = words_of bytes

-- the space after the first word is there at this offset, or nowhere
abbrev pub IsFirstSpace : List ℕ → Option ℕ → Type 0
IsFirstSpace line None = (first_word Plain line ≡ line) × (after_word Plain line ≡ None)
IsFirstSpace line (Some at) = (at < length line) × (first_word Plain line ≡ take at line) × (after_word Plain line ≡ Some (drop (at + 1) line))

-- the words of what is left, where this is a borrow of it
abbrev pub rest_words : Option (Bor (List ℕ)) → List (List ℕ)
rest_words rest = words_left (option_copied rest)
