use Rattle.std.proofs.Common.{◌≡◌, ◌++◌, drop}
use Rattle.std.specs.List.{flat_map}
use Rattle.sal_world.specs.Lists as spec
use Rattle.sal_lists.proofs.listing.add_faults_of_steps.Given as goal

abbrev pub invariant-loop-step : goal.invariant-loop-step
invariant-loop-step l = l.faults ++ flat_map spec.faults_of_step (drop l.step-index l.log) ≡ l.fn.faults ++ flat_map spec.faults_of_step l.log
