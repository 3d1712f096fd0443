use Rattle.std.proofs.Common.{◌≡◌, drop}
use Rattle.std.specs.List.{list_any}
use Rattle.sal_types.specs.Endings as spec
use Rattle.sal_types.proofs.endings.+ends.Given as goal

abbrev pub invariant-one_ends-loop-stmt : goal.invariant-one_ends-loop-stmt
invariant-one_ends-loop-stmt l = list_any spec.surely_ends (drop l.stmt-index l.body) ≡ list_any spec.surely_ends l.body
