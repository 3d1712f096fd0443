use Rattle.std.proofs.Common.{arith, append_assoc}
use Rattle.std.proofs.lemmas.List.{map-append}
use Rattle.sal_ast.proofs.SpellEquations.{spell-If}
use Rattle.sal_ast.proofs.spell_program.+stmt.Goals as goal

pub stmt-returns-in_ok-stmt-in-If : goal.stmt-returns-in_ok-stmt-in-If
stmt-returns-in_ok-stmt-in-If t c = grind (arith, map-append, append_assoc, spell-If c.in-If.at c.in-If.test c.in-If.yes c.in-If.no)
