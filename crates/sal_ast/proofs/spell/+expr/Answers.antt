use Rattle.std.proofs.Common.{arith, append_assoc}
use Rattle.std.proofs.lemmas.List.{map-append}
use Rattle.sal_ast.proofs.SpellEquations.{spell-New, spell-Make, spell-ListOf, spell-ByName}
use Rattle.sal_ast.proofs.SpellSteps.{reference_place}
use Rattle.sal_ast.proofs.spell.+expr.Goals as goal

pub expr-returns-in_ok-sign-in-New-2 : goal.expr-returns-in_ok-sign-in-New-2
expr-returns-in_ok-sign-in-New-2 t c = grind (arith, map-append, append_assoc, spell-New c.in-New.at c.in-New.behavior c.in-New.args c.in-New.place)

pub expr-returns-in_ok-sign-in-Make-2 : goal.expr-returns-in_ok-sign-in-Make-2
expr-returns-in_ok-sign-in-Make-2 t c = grind (arith, map-append, append_assoc, spell-Make c.in-Make.at c.in-Make.sort c.in-Make.size)

pub expr-returns-in_ok-exprs-in-ListOf : goal.expr-returns-in_ok-exprs-in-ListOf
expr-returns-in_ok-exprs-in-ListOf t c = grind (arith, map-append, append_assoc, spell-ListOf c.in-ListOf.at c.in-ListOf.sort c.in-ListOf.items)

pub expr-returns-in_ok-expr-in-ByName : goal.expr-returns-in_ok-expr-in-ByName
expr-returns-in_ok-expr-in-ByName t c = grind (arith, map-append, append_assoc, reference_place c.in-ByName.at c.in-ByName.cast c.in-ByName.behavior, spell-ByName c.in-ByName.at c.in-ByName.cast c.in-ByName.behavior c.in-ByName.name)
