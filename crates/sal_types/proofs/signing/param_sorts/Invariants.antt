use Rattle.std.proofs.Common.{◌≡◌, map, drop}
use Rattle.sal_ast.specs.declared.program.Param.{Param}
use Rattle.sal_ast.specs.Sorts.{type_sort}
use Rattle.sal_types.specs.Signatures.{all_some}
use Rattle.sal_types.specs.code.Signing.{with_front}
use Rattle.sal_types.proofs.signing.param_sorts.Given as goal

abbrev pub invariant-loop-p : goal.invariant-loop-p
invariant-loop-p l = with_front l.sorts (all_some (map (λ (p : Param). type_sort p.sort l.behaviors) (drop l.p-index l.params))) ≡ all_some (map (λ (p : Param). type_sort p.sort l.behaviors) l.params)
