-- A text has one answer: tokens that cover it, or a refusal.
use Rattle.std.specs.Prelude.{◌≡◌, ℕ, ◌≤◌, List, length, ◌⊎◌}
use Rattle.sal_text.specs.declared.token.LexRule.{LexRule}
use Rattle.sal_text.specs.declared.token.Token.{Token}
use Rattle.sal_text.specs.Tokens.{Covers}
use Rattle.sal_text.specs.Refusals.{Refuses}
use Rattle.sal_ast.specs.declared.constants.TheConstants.{LONGEST_PROGRAM}

-- no two lists of tokens cover a text
abbrev pub CoversAreUnique : Type 0
CoversAreUnique = (text : List ℕ) (tokens others : List Token) → Covers text tokens → Covers text others → tokens ≡ others

-- a text of at most 262,144 bytes that tokens cover has no refusal
abbrev pub NeverCoveredAndRefused : Type 0
NeverCoveredAndRefused = (text : List ℕ) (tokens : List Token) (rule : LexRule) (at : ℕ) → length text ≤ LONGEST_PROGRAM → Covers text tokens → Refuses rule at text → ⊥

-- a text is covered by tokens, or it is refused
abbrev pub CoveredOrRefused : Type 0
CoveredOrRefused = (text : List ℕ) → ((tokens : List Token) × Covers text tokens) ⊎ ((rule : LexRule) × ((at : ℕ) × Refuses rule at text))

-- a text has one refusal at most, by one rule
abbrev pub RefusalsAreUnique : Type 0
RefusalsAreUnique =
    (text : List ℕ) (rule other : LexRule) (at place : ℕ) → Refuses rule at text → Refuses other place text → (rule ≡ other) × (at ≡ place)
