use Rattle.std.proofs.Common.{◌≡◌, ◌++◌, map, drop}
use Rattle.sal_ast.specs.Spell.{lexemes, concat_tokens, separated_tokens}
use Rattle.sal_ast.proofs.SpellSteps.{go_on}
use Rattle.sal_ast.specs.Spell as spec
use Rattle.sal_ast.proofs.spell.+expr.Given as goal

abbrev pub invariant-exprs-loop-item : goal.invariant-exprs-loop-item
invariant-exprs-loop-item l = l.out ++ lexemes (go_on l.begun "," (map spec.spell_expr (drop l.item-index l.items))) ≡ l.fn.out ++ lexemes (separated_tokens "," (map spec.spell_expr l.items))

abbrev pub invariant-operands-loop-item : goal.invariant-operands-loop-item
invariant-operands-loop-item l = l.out ++ lexemes (concat_tokens (map spec.spell_operand (drop l.item-index l.rest))) ≡ l.fn.out ++ lexemes (concat_tokens (map spec.spell_operand l.rest))

abbrev pub invariant-suffixes-loop-item : goal.invariant-suffixes-loop-item
invariant-suffixes-loop-item l = l.out ++ lexemes (concat_tokens (map spec.spell_suffix (drop l.item-index l.rest))) ≡ l.fn.out ++ lexemes (concat_tokens (map spec.spell_suffix l.rest))
