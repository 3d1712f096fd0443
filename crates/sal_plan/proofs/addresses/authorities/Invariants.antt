use Rattle.std.proofs.Common.{◌≡◌, drop}
use Rattle.sal_plan.specs.Rules.{each}
use Rattle.sal_plan.specs.Services.{authority_of}
use Rattle.sal_plan.proofs.Each.{after}
use Rattle.sal_plan.proofs.addresses.authorities.Given as goal

abbrev pub invariant-loop-text : goal.invariant-loop-text
invariant-loop-text l = after l.authorities (each authority_of (drop l.text-index l.texts)) ≡ each authority_of l.texts
