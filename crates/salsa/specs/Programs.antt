-- Which texts are programs, and why and where others are refused.
use Rattle.std.specs.Prelude.{ℕ, ◌≤◌, List, ◌++◌, length, codes, Option, Some, None, Result, Ok, Err}
use Rattle.std.specs.Fmt.{decimal}
use Rattle.sal_ast.specs.declared.constants.TheConstants.{LONGEST_PROGRAM}
use Rattle.sal_ast.specs.declared.program.Program.{Program}
use Rattle.sal_text.specs.declared.token.Token.{Token as Span}
use Rattle.sal_text.specs.declared.token.LexRule.{LexRule}
use Rattle.sal_text.specs.declared.token.LexRule.TheVariants as lexical
use Rattle.sal_text.specs.Tokens.{Covers}
use Rattle.sal_text.specs.Refusals as text
use Rattle.sal_grammar.specs.declared.reason.ParseRule.{ParseRule}
use Rattle.sal_grammar.specs.declared.reason.ParseRule.TheVariants as grammar
use Rattle.sal_grammar.specs.Refusals.{IsProgram}
use Rattle.sal_reader.specs.Source.{tokens_in}
use Rattle.sal_parse.specs.Answers.{IsRefusal}
use Rattle.sal_types.specs.Programs.{IsTyped, BeginsWith, violations_of}
use Rattle.salsa.specs.declared.refusal.Refusal.{Refusal}
use Rattle.salsa.specs.declared.refusal.Refusal.TheVariants.{Lexical, Grammar, Typing}
use Rattle.salsa.specs.declared.refusal.ReadFault.{ReadFault}
use Rattle.salsa.specs.declared.refusal.ReadFault.TheVariants.{Refused, Memory}

-- the text is cut into tokens, and they are those of a regular tree of depth at most 64, at the same places
pub record IsTextOf (text : List ℕ) (program : Program) : Type 0 where
  pub short : length text ≤ LONGEST_PROGRAM
  pub spans : List Span
  pub covers : Covers text spans
  pub is_program : IsProgram 64 program (tokens_in text spans)

-- The text is cut into tokens, and one of them, or their end, is refused by this rule at this byte: no such tree goes on
-- with it. `bracket` is the byte of the innermost bracket that is open before it.
pub record IsNoTree (text : List ℕ) (rule : ParseRule) (at : ℕ) (bracket : Option ℕ) : Type 0 where
  pub short : length text ≤ LONGEST_PROGRAM
  pub spans : List Span
  pub covers : Covers text spans
  pub token : ℕ
  pub refused : IsRefusal (length text) (tokens_in text spans) rule token at bracket

-- the text is that of the program, in which no typing rule is violated
pub record IsTypedTextOf (text : List ℕ) (program : Program) : Type 0 where
  pub tree : IsTextOf text program
  pub typed : IsTyped program

-- the text is that of a tree, and this is the first violation of a typing rule in it
pub record IsIllTyped (text : List ℕ) (rule at : ℕ) : Type 0 where
  pub program : Program
  pub tree : IsTextOf text program
  pub first : BeginsWith (violations_of program) (rule, at)

-- why a text is no program: by a lexical rule at a byte, by a rule of the grammar, or by a typing rule
abbrev pub IsRefused : List ℕ → Refusal → Type 0
IsRefused bytes (Lexical rule at) = text.Refuses rule at bytes
IsRefused bytes (Grammar rule at bracket) = IsNoTree bytes rule at bracket
IsRefused bytes (Typing rule at) = IsIllTyped bytes rule at

-- what reading a text answers before types are judged: its tree, or why it has none
abbrev pub IsTreeOrRefusal : List ℕ → Result Program ReadFault → Type 0
IsTreeOrRefusal bytes (Ok program) = IsTextOf bytes program
IsTreeOrRefusal bytes (Err (Refused refusal)) = IsRefused bytes refusal
IsTreeOrRefusal bytes (Err Memory) = Unit {0}

-- what reading a text answers: its program, or why it is none; memory may run out
abbrev pub IsReading : List ℕ → Result Program ReadFault → Type 0
IsReading bytes (Ok program) = IsTypedTextOf bytes program
IsReading bytes (Err (Refused refusal)) = IsRefused bytes refusal
IsReading bytes (Err Memory) = Unit {0}

-- ---- the line that tells a refusal

unfoldable pub lexical_name : LexRule → List ℕ
lexical_name lexical.L0 = codes "L0"
lexical_name lexical.L1 = codes "L1"
lexical_name lexical.L2 = codes "L2"
lexical_name lexical.L3 = codes "L3"
lexical_name lexical.L4 = codes "L4"
lexical_name lexical.L5 = codes "L5"

unfoldable pub grammar_name : ParseRule → List ℕ
grammar_name grammar.P1 = codes "P1"
grammar_name grammar.P2 = codes "P2"
grammar_name grammar.P3 = codes "P3"

-- `-` where no bracket is open
abbrev pub bracket_text : Option ℕ → List ℕ
bracket_text None = codes "-"
bracket_text (Some at) = decimal at

-- ` at ` and a byte
abbrev pub at_byte : ℕ → List ℕ
at_byte at = codes " at " ++ decimal at

-- the rule, its byte, and of the grammar's rules the open bracket
abbrev pub refusal_text : Refusal → List ℕ
refusal_text (Lexical rule at) = lexical_name rule ++ at_byte at
refusal_text (Grammar rule at bracket) = grammar_name rule ++ at_byte at ++ (codes " open " ++ bracket_text bracket)
refusal_text (Typing rule at) = codes "Y" ++ decimal rule ++ at_byte at

-- `refused RULE at BYTE` or `refused RULE at BYTE open BYTE`, and a newline
abbrev pub refusal_line : Refusal → List ℕ
refusal_line refusal = codes "refused " ++ refusal_text refusal ++ codes "\n"
