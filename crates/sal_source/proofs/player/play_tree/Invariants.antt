use Rattle.std.proofs.Common.{◌≡◌, take, Some}
use Rattle.sal_source.specs.Run.{play}
use Rattle.sal_source.proofs.player.play_tree.Given as goal

abbrev pub invariant-loop-i : goal.invariant-loop-i
invariant-loop-i l = play l.program l.setup (take l.i l.steps) ≡ Some l.run
