use Rattle.std.proofs.Common.{◌≡◌, [], take, drop}
use Rattle.sal_types.specs.code.Checks as checks
use Rattle.sal_types.proofs.members.judge_members.Given as goal

abbrev pub invariant-loop-i : goal.invariant-loop-i
invariant-loop-i l = checks.check_members l.behaviors l.own (take l.i l.members) (drop l.i l.members) ≡ checks.check_members l.behaviors l.own [] l.members
