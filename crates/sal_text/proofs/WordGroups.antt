-- The words of the language, a few at a time.
use Rattle.std.proofs.Common.{◌≡◌, ℕ, ◌||◌, List}
use Rattle.std.proofs.Math.Bool.{or_assoc, or-false}
use Rattle.sal_ast.specs.Lexemes.{is_word}
use Rattle.sal_text.specs.code.Scanning.{first_words, second_words, third_words, last_words}

pub words_cut : (name : List ℕ) → is_word name ≡ (first_words name || second_words name || third_words name || last_words name)
unfolding is_word
words_cut name = simp (or_assoc, or-false)
