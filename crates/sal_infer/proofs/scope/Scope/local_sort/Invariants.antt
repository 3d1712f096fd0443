use Rattle.std.proofs.Common.{◌≡◌, drop, map}
use Rattle.sal_handler.specs.Scopes.{variable_of}
use Rattle.sal_infer.specs.code.Finding.{sort_named}
use Rattle.sal_infer.proofs.scope.Scope.local_sort.Given as goal

abbrev pub invariant-loop-local : goal.invariant-loop-local
invariant-loop-local l = sort_named l.name (map variable_of (drop l.local-index l.locals)) ≡ sort_named l.name (map variable_of l.locals)
