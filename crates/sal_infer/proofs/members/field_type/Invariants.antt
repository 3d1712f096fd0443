use Rattle.std.proofs.Common.{◌≡◌, drop}
use Rattle.sal_infer.specs.code.Finding.{field_type}
use Rattle.sal_infer.proofs.members.field_type.Given as goal

abbrev pub invariant-loop-member : goal.invariant-loop-member
invariant-loop-member l = field_type l.name (drop l.member-index l.members) ≡ field_type l.name l.members
