use Rattle.std.proofs.Common.{◌≡◌, [], take, drop}
use Rattle.sal_types.specs.code.Checks as checks
use Rattle.sal_types.proofs.program.judge_behaviors.Given as goal

abbrev pub invariant-loop-i : goal.invariant-loop-i
invariant-loop-i l = checks.check_behaviors l.behaviors (take l.i l.behaviors) (drop l.i l.behaviors) ≡ checks.check_behaviors l.behaviors [] l.behaviors
