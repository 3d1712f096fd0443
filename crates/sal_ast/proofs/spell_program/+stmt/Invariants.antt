use Rattle.std.proofs.Common.{◌≡◌, ◌++◌, map, drop}
use Rattle.sal_ast.specs.Spell.{lexemes, concat_tokens, separated_tokens}
use Rattle.sal_ast.specs.Spell as spec
use Rattle.sal_ast.proofs.SpellSteps.{go_on}
use Rattle.sal_ast.proofs.spell_program.+stmt.Given as goal

abbrev pub invariant-body-loop-item : goal.invariant-body-loop-item
invariant-body-loop-item l = l.out ++ lexemes (concat_tokens (map spec.spell_stmt (drop l.item-index l.items))) ≡ l.fn.out ++ lexemes (concat_tokens (map spec.spell_stmt l.items))

abbrev pub invariant-stages-loop-item : goal.invariant-stages-loop-item
invariant-stages-loop-item l = l.out ++ lexemes (go_on l.begun "@" (map spec.spell_stage (drop l.item-index l.items))) ≡ l.fn.out ++ lexemes (separated_tokens "@" (map spec.spell_stage l.items))
