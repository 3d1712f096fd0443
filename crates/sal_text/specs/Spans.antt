-- The bytes of a token in its text.
use Rattle.std.specs.Prelude.{ℕ, ◌≤◌, ◌<◌, List, [], length, slice_get, slice_range, Option, Some, None}
use Rattle.std.specs.Option.{ForSome}
use Rattle.sal_text.specs.declared.token.Token.{Token}

-- there is a token of this number, and its span lies in the text
pub record SpanIsInside (text : List ℕ) (tokens : List Token) (i : ℕ) : Type 0 where
  pub there : i < length tokens
  pub inside : ForSome (slice_get tokens i) (λ token. (token.start ≤ token.end) × (token.end ≤ length text))

abbrev pub token_bytes : List ℕ → Option Token → List ℕ
token_bytes text None = []
token_bytes text (Some token) = slice_range text token.start token.end

-- the bytes of the text in the token's span
abbrev pub span_bytes : List ℕ → List Token → ℕ → List ℕ
span_bytes text tokens i = token_bytes text (slice_get tokens i)
