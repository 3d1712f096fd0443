use Rattle.std.proofs.Common.{◌≡◌, drop}
use Rattle.sal_ast.specs.Sorts.{changes_in_order}
use Rattle.sal_infer.specs.Scopes.{scope_in}
use Rattle.sal_infer.specs.code.Finding.{Grows}
use Rattle.sal_infer.specs.code.Parts.{scope_changes}
use Rattle.sal_infer.proofs.chains.+chains.Given as goal

abbrev pub invariant-list_result-loop-stmt : goal.invariant-list_result-loop-stmt
invariant-list_result-loop-stmt l = record {
  same : changes_in_order (scope_changes (drop l.stmt-index l.list)) (scope_in l.scope) ≡ changes_in_order (scope_changes l.list) (scope_in l.fn.scope);
  grows : Grows l.fn.scope l.scope;
}
