-- What the parser answers.
use Rattle.std.specs.Prelude.{◌≡◌, ℕ, List, Option, Result, Ok, Err}
use Rattle.sal_ast.specs.declared.program.Program.{Program}
use Rattle.sal_grammar.specs.declared.reason.ParseRule.{ParseRule}
use Rattle.sal_grammar.specs.Refusals.{Refuses, place_of, bracket_before}
use Rattle.sal_grammar.specs.Tokens.{Token}
use Rattle.sal_parse.specs.declared.fault.ParseFault.{ParseFault}
use Rattle.sal_parse.specs.declared.fault.ParseFault.TheVariants.{Refused, Memory}

-- the answer is this program, unless memory ran out
abbrev pub IsAnswer : Program → Result Program ParseFault → Type 0
IsAnswer p (Ok q) = q ≡ p
IsAnswer p (Err (Refused rule token at bracket)) = ⊥
IsAnswer p (Err Memory) = Unit {0}

-- the tokens of a text of this size are refused at token k by this rule; its byte, and that of the innermost open bracket
pub record IsRefusal (size : ℕ) (tokens : List Token) (rule : ParseRule) (k at : ℕ) (bracket : Option ℕ) : Type 0 where
  pub refuses : Refuses tokens rule k
  pub place : at ≡ place_of size tokens k
  pub open_bracket : bracket ≡ bracket_before tokens k

-- the fault is the refusal of the tokens, or that memory ran out
abbrev pub IsFault : ℕ → List Token → ParseFault → Type 0
IsFault size tokens (Refused rule token at bracket) = IsRefusal size tokens rule token at bracket
IsFault size tokens Memory = Unit {0}
