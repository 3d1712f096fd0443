-- What the functional parser answers of any list of tokens of the language, and that such a list has one tree.
use Rattle.std.specs.Prelude.{◌≡◌, ◌-◌, List, [], length, Ok, Err}
use Rattle.sal_ast.specs.declared.program.Program.{Program}
use Rattle.sal_grammar.specs.declared.reason.Reason.{Reason}
use Rattle.sal_grammar.specs.Tokens.{Token, Lexemes}
use Rattle.sal_grammar.specs.Programs.{top, rule_of}
use Rattle.sal_grammar.specs.Refusals.{IsProgram, Refuses}

-- It answers the tree of a program, and only that; of what is no program it answers the refused token and the rule.
pub record ProgramsAreRead : Type 0 where
  pub tree : (p : Program) (tokens : List Token) → IsProgram 64 p tokens → top 64 tokens ≡ Ok (p, [])
  pub program : (p : Program) (tokens rest : List Token) → Lexemes tokens → top 64 tokens ≡ Ok (p, rest) → IsProgram 64 p tokens
  pub refusal :
      (why : Reason) (tokens rest : List Token) → Lexemes tokens → top 64 tokens ≡ Err (why, rest)
      → Refuses tokens (rule_of why rest) (length tokens - length rest)

-- No two trees are spelled by the same tokens with the same places.
abbrev pub TreesAreUnique : Type 0
TreesAreUnique = (p q : Program) (tokens : List Token) → IsProgram 64 p tokens → IsProgram 64 q tokens → p ≡ q
