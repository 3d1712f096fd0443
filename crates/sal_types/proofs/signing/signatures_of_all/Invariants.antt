use Rattle.std.proofs.Common.{◌≡◌, map, drop}
use Rattle.sal_types.specs.Signatures.{all_some, behavior_signatures}
use Rattle.sal_types.specs.code.Signing.{with_front}
use Rattle.sal_types.proofs.signing.signatures_of_all.Given as goal

abbrev pub invariant-loop-b : goal.invariant-loop-b
invariant-loop-b l = with_front l.signatures (all_some (map (behavior_signatures l.behaviors) (drop l.b-index l.behaviors))) ≡ all_some (map (behavior_signatures l.behaviors) l.behaviors)
