use Rattle.std.proofs.Common.{◌≡◌, drop}
use Rattle.sal_types.specs.Members.{is_among}
use Rattle.sal_types.specs.Programs.{behavior_names}
use Rattle.sal_types.proofs.program.has_behavior.Given as goal

abbrev pub invariant-loop-b : goal.invariant-loop-b
invariant-loop-b l = is_among l.name (behavior_names (drop l.b-index l.behaviors)) ≡ is_among l.name (behavior_names l.behaviors)
