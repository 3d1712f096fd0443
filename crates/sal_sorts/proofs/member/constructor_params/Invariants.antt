use Rattle.std.proofs.Common.{◌≡◌, drop}
use Rattle.sal_sorts.specs.code.Callees.{first_constructor}
use Rattle.sal_sorts.proofs.member.constructor_params.Given as goal

abbrev pub invariant-loop-member : goal.invariant-loop-member
invariant-loop-member l = first_constructor (drop l.member-index l.members) ≡ first_constructor l.members
