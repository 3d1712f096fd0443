-- The laws of the whole parser: the words of the grammar are the spellings of regular trees, and it reads them exactly.
use Rattle.std.proofs.Common.{◌≡◌, ◌∙◌, List, [], sym, ap}
use Rattle.std.specs.Prelude.{Ok, Err}
use Rattle.sal_ast.specs.declared.program.Program.{Program}
use Rattle.sal_grammar.specs.Tokens.{Token}
use Rattle.sal_grammar.specs.Programs.{top}
use Rattle.sal_grammar.specs.Refusals.{IsProgram}
use Rattle.sal_grammar.specs.Laws.{ProgramsAreRead, TreesAreUnique}
use Rattle.sal_grammar.proofs.Top.{every}
use Rattle.sal_grammar.proofs.Answers.{Linked, accepts, only, refuses}
use Rattle.sal_grammar.proofs.TreesPrograms.{word_is_program, program_is_word}

linked : Linked
linked = record { to = word_is_program; from = program_is_word }

read : (p : Program) (ts : List Token) → IsProgram 64 p ts → top 64 ts ≡ Ok (p, [])
read p ts w = every 64 p ts (program_is_word 64 p ts w)

pub programs_are_read : ProgramsAreRead
programs_are_read = record { tree = read; program = accepts linked; refusal = refuses linked }

pub trees_are_unique : TreesAreUnique
trees_are_unique p q ts w v = only linked p q ts [] w (read q ts v)
