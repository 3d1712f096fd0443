use Rattle.std.proofs.Common.{◌≡◌, ◌++◌, map, drop}
use Rattle.sal_ast.specs.Spell.{lexemes, concat_tokens, spell_behavior}
use Rattle.sal_ast.proofs.program.Program.spell.Given as goal

abbrev pub invariant-loop-item : goal.invariant-loop-item
invariant-loop-item l = l.out ++ lexemes (concat_tokens (map spell_behavior (drop l.item-index l.item-items))) ≡ lexemes (concat_tokens (map spell_behavior l.self.behaviors))
