use Rattle.std.proofs.Common.{◌≡◌, ◌++◌, ◌-◌}
use Rattle.sal_ast.specs.Spell.{lexemes, brackets}
use Rattle.sal_ast.proofs.spell.pairs.Given as goal

abbrev pub invariant-loop-pair : goal.invariant-loop-pair
invariant-loop-pair l = l.out ++ lexemes (brackets (l.dims - l._pair)) ≡ l.fn.out ++ lexemes (brackets l.dims)
