-- The tokens of a text, as the grammar sees them.
use Rattle.std.specs.Prelude.{ℕ, List, map, slice_range}
use Rattle.sal_grammar.specs.Tokens.{Token, Lexemes}
use Rattle.sal_text.specs.declared.token.Token.{Token as Span}
use Rattle.sal_text.specs.Tokens.{Covers}
use Rattle.sal_text.specs.Values.{lexeme_text}

-- the token that stands in the text at a span
abbrev pub token_in : List ℕ → Span → Token
token_in text span = record { kind = span.kind; text = lexeme_text span.kind (slice_range text span.start span.end); at = span.start }

abbrev pub tokens_in : List ℕ → List Span → List Token
tokens_in text spans = map (token_in text) spans

-- the tokens of a covered text are tokens of the language
abbrev pub TokensAreLexemes : Type 0
TokensAreLexemes = (text : List ℕ) (spans : List Span) → Covers text spans → Lexemes (tokens_in text spans)
