use Rattle.std.proofs.Common.{◌≡◌, drop}
use Rattle.std.specs.List.{list_any}
use Rattle.sal_value.specs.declared.name.Authority.{Authority}
use Rattle.sal_source.specs.Step.{serves}
use Rattle.sal_source.proofs.services.is_served.Given as goal

abbrev pub invariant-loop-authority : goal.invariant-loop-authority
invariant-loop-authority l = list_any (λ (a : Authority). serves a l.name) l.authorities ≡ list_any (λ (a : Authority). serves a l.name) (drop l.authority-index l.authorities)
