-- What is found at the front of a text, in terms of parts and violations.
use Rattle.std.specs.Prelude.{◌≡◌, ℕ, ◌<◌, ◌≤◌, List, length, take, drop}
use Rattle.sal_ast.specs.declared.lexeme.Kind.{Kind}
use Rattle.sal_text.specs.declared.token.Token.{Token}
use Rattle.sal_text.specs.declared.piece.Scan.{Scan}
use Rattle.sal_text.specs.declared.piece.Scan.TheVariants as piece
use Rattle.sal_text.specs.Tokens.{PartKind, Stands, IsToken, with_token}
use Rattle.sal_text.specs.Refusals.{Violates}

-- a blank or a comment of n bytes
pub record IsBetween (n : ℕ) (text : List ℕ) : Type 0 where
  pub what : PartKind
  pub quiet : (start end : ℕ) (tokens : List Token) → with_token what start end tokens ≡ tokens
  pub some : 0 < n
  pub within : n ≤ length text
  pub stands : Stands what (take n text) (drop n text)

-- a token of n bytes
pub record IsTokenAtFront (of : Kind) (n : ℕ) (text : List ℕ) : Type 0 where
  pub some : 0 < n
  pub within : n ≤ length text
  pub stands : IsToken of (take n text) (drop n text)

abbrev pub IsScanOf : Scan → List ℕ → Type 0
IsScanOf (piece.Between n) text = IsBetween n text
IsScanOf (piece.Token of n) text = IsTokenAtFront of n text
IsScanOf (piece.Refused rule place) text = Violates rule text place
