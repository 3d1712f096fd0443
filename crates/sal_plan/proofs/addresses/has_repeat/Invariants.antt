use Rattle.std.proofs.Common.{◌≡◌, drop}
use Rattle.sal_plan.specs.Rules.{has_repeat}
use Rattle.sal_plan.proofs.addresses.has_repeat.Given as goal

abbrev pub invariant-loop-i : goal.invariant-loop-i
invariant-loop-i l = has_repeat (drop l.i l.addresses) ≡ has_repeat l.addresses
