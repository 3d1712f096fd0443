-- What the functional parser's outcome says of the tokens.
use Rattle.std.proofs.Common.{◌≡◌, ℕ, ◌-◌, Bool, List, [], length, Option, refl, sym, ◌∙◌, ap}
use Rattle.std.specs.Prelude.{Ok, Err}
use Rattle.sal_ast.specs.declared.program.Program.{Program}
use Rattle.sal_grammar.specs.declared.reason.Reason.{Reason}
use Rattle.sal_grammar.specs.Laws.{ProgramsAreRead}
use Rattle.sal_grammar.specs.Parsers.{Outcome}
use Rattle.sal_grammar.specs.Programs.{top, rule_of}
use Rattle.sal_grammar.specs.Refusals.{IsProgram, Refuses, place_of, bracket_before}
use Rattle.sal_grammar.specs.Tokens.{Token, Lexemes}
use Rattle.sal_grammar.proofs.Reading.{programs_are_read}
use Rattle.sal_parse.specs.Answers.{IsRefusal}

pub accepted : (tokens rest : List Token) (p : Program) → Lexemes tokens → top 64 tokens ≡ Ok (p, rest) → IsProgram 64 p tokens
accepted tokens rest p l e = programs_are_read.program p tokens rest l e

-- the value of an outcome, or this one
abbrev value_or : Program → Outcome Program → Program
value_or other (Ok found) = found.0
value_or other (Err e) = other

pub only : (tokens rest : List Token) (p q : Program) → IsProgram 64 q tokens → top 64 tokens ≡ Ok (p, rest) → p ≡ q
only tokens rest p q h e = ap (value_or p) (sym e ∙ programs_are_read.tree q tokens h)

pub never : (tokens rest : List Token) (q : Program) (why : Reason) → IsProgram 64 q tokens → top 64 tokens ≡ Err (why, rest) → ⊥
never tokens rest q why h e =
    let f : top 64 tokens ≡ Ok (q, []) = programs_are_read.tree q tokens h in
    let g : Err (why, rest) ≡ Ok (q, []) = sym e ∙ f in
    cc

pub refused : (size : ℕ) (tokens rest : List Token) (why : Reason) → Lexemes tokens → top 64 tokens ≡ Err (why, rest)
    → IsRefusal size tokens (rule_of why rest) (length tokens - length rest) (place_of size tokens (length tokens - length rest)) (bracket_before tokens (length tokens - length rest))
refused size tokens rest why l e =
    record { refuses = programs_are_read.refusal why tokens rest l e; place = refl; open_bracket = refl }
