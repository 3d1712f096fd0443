use Rattle.std.proofs.Common.{◌≡◌, drop}
use Rattle.std.specs.List.{list_any}
use Rattle.sal_types.specs.Signatures.{has_act}
use Rattle.sal_types.proofs.numbers.has_start.Given as goal

abbrev pub invariant-loop-b : goal.invariant-loop-b
invariant-loop-b l = list_any has_act (drop l.b-index l.behaviors) ≡ list_any has_act l.behaviors
