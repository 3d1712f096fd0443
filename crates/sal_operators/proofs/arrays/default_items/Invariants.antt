use Rattle.std.proofs.Common.{◌≡◌, replicate}
use Rattle.sal_handler.specs.Values as spec
use Rattle.sal_operators.proofs.arrays.default_items.Given as goal

abbrev pub invariant-loop-i : goal.invariant-loop-i
invariant-loop-i l = l.items ≡ replicate l._i (spec.default_item l.sort)
