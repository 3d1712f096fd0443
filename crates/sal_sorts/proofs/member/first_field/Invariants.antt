use Rattle.std.proofs.Common.{◌≡◌, drop}
use Rattle.sal_sorts.specs.code.Callees.{first_field}
use Rattle.sal_sorts.proofs.member.first_field.Given as goal

abbrev pub invariant-loop-member : goal.invariant-loop-member
invariant-loop-member l = first_field l.name (drop l.member-index l.members) ≡ first_field l.name l.members
