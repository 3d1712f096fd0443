use Rattle.std.proofs.Common.{◌≡◌, drop}
use Rattle.sal_value.specs.Names.{ual_of}
use Rattle.sal_plan.specs.Rules.{each}
use Rattle.sal_plan.proofs.Each.{after}
use Rattle.sal_plan.proofs.addresses.locators.Given as goal

abbrev pub invariant-loop-text : goal.invariant-loop-text
invariant-loop-text l = after l.locators (each ual_of (drop l.text-index l.texts)) ≡ each ual_of l.texts
