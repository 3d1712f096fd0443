use Rattle.std.proofs.Common.{◌≡◌, ◌≤◌, drop}
use Rattle.sal_handler.specs.Handler.{start_from}
use Rattle.sal_walk.proofs.members.start_of.Given as goal

abbrev pub invariant-loop-behavior : goal.invariant-loop-behavior
invariant-loop-behavior l = record {
  few : l.number ≤ 65535;
  same : start_from l.number (drop l.behavior-index l.behaviors) ≡ start_from 0 l.behaviors;
}
