use Rattle.std.proofs.Common.{◌≡◌, drop, map}
use Rattle.sal_infer.specs.Scopes.{declared_variable}
use Rattle.sal_infer.specs.code.Finding.{sort_named}
use Rattle.sal_infer.proofs.scope.Scope.declared_sort.Given as goal

abbrev pub invariant-loop-local : goal.invariant-loop-local
invariant-loop-local l = sort_named l.name (map declared_variable (drop l.local-index l.declared)) ≡ sort_named l.name (map declared_variable l.declared)
