use Rattle.std.proofs.Common.{◌≡◌, ◌++◌, map, drop}
use Rattle.sal_ast.specs.Spell.{lexemes, concat_tokens, separated_tokens}
use Rattle.sal_ast.specs.Spell as spec
use Rattle.sal_ast.proofs.SpellSteps.{go_on}
use Rattle.sal_ast.proofs.spell_program.args.Given as goal

abbrev pub invariant-loop-item : goal.invariant-loop-item
invariant-loop-item l = l.out ++ lexemes (go_on l.begun "," (map spec.spell_arg (drop l.item-index l.items))) ≡ l.fn.out ++ lexemes (separated_tokens "," (map spec.spell_arg l.items))
