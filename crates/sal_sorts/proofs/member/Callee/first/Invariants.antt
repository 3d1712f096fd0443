use Rattle.std.proofs.Common.{◌≡◌, drop}
use Rattle.sal_sorts.specs.code.Callees.{first_handler}
use Rattle.sal_sorts.proofs.member.Callee.first.Given as goal

abbrev pub invariant-loop-member : goal.invariant-loop-member
invariant-loop-member l = first_handler l.name (drop l.member-index l.members) ≡ first_handler l.name l.members
