use Rattle.std.proofs.Common.{◌≡◌, map, take}
use Rattle.sal_plan.specs.Rules.{locator_address}
use Rattle.sal_plan.proofs.addresses.locator_addresses.Given as goal

abbrev pub invariant-loop-locator : goal.invariant-loop-locator
invariant-loop-locator l = l.addresses ≡ map locator_address (take l.locator-index l.theatres)
