-- The tokens of a covered text are tokens of the language.
use Rattle.std.proofs.Common.{◌≡◌, ℕ, zero, suc, true, ◌&&◌, List, [], ◌∷◌, Some, refl}
use Rattle.std.specs.Prelude.{slice_get}
use Rattle.std.proofs.lemmas.Bool.{and_from}
use Rattle.sal_grammar.specs.Tokens.{Lexemes}
use Rattle.sal_text.specs.declared.token.Token.{Token as Span}
use Rattle.sal_text.specs.Standing.{StandsIn}
use Rattle.sal_text.specs.Tokens.{Covers}
use Rattle.sal_text.proofs.Stood.{tokens_stand}
use Rattle.sal_reader.specs.Source.{token_in, tokens_in, TokensAreLexemes}

all_lexemes : (text : List ℕ) (spans : List Span) → ((i : ℕ) (span : Span) → slice_get spans i ≡ Some span → StandsIn text span) → Lexemes (tokens_in text spans)
all_lexemes text [] f = refl
all_lexemes text (s ∷ ss) f = and_from _ _ (f 0 s refl).lexeme (all_lexemes text ss (λ i span e. f (suc i) span e))

pub tokens_are_lexemes : TokensAreLexemes
tokens_are_lexemes text spans k = all_lexemes text spans (λ i span e. tokens_stand text spans i span k e)
