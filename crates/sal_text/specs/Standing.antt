-- What is known of each token of a text.
use Rattle.std.specs.Prelude.{◌≡◌, ℕ, ◌<◌, ◌≤◌, true, List, length, slice_get, slice_range, Some}
use Rattle.sal_ast.specs.Lexemes.{is_lexeme}
use Rattle.sal_text.specs.declared.token.Token.{Token}
use Rattle.sal_text.specs.Values.{lexeme_text}
use Rattle.sal_text.specs.Tokens.{Covers, has_form, is_valid}
use Rattle.sal_text.specs.Spans.{SpanIsInside}

-- the token's span lies in the text, and its bytes are a token of its kind
pub record StandsIn (text : List ℕ) (token : Token) : Type 0 where
  pub ordered : token.start ≤ token.end
  pub inside : token.end ≤ length text
  pub form : has_form token.kind (slice_range text token.start token.end) ≡ true
  pub kept : is_valid token.kind (slice_range text token.start token.end) ≡ true
  pub lexeme : is_lexeme token.kind (lexeme_text token.kind (slice_range text token.start token.end)) ≡ true

-- each token of a text stands in it
abbrev pub TokensStand : Type 0
TokensStand = (text : List ℕ) (tokens : List Token) (i : ℕ) (token : Token) → Covers text tokens → slice_get tokens i ≡ Some token → StandsIn text token

-- the bytes of each token can be asked for
abbrev pub SpansAreInside : Type 0
SpansAreInside = (text : List ℕ) (tokens : List Token) (i : ℕ) → Covers text tokens → i < length tokens → SpanIsInside text tokens i
