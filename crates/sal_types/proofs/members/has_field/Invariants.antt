use Rattle.std.proofs.Common.{◌≡◌, drop}
use Rattle.sal_types.specs.Members.{is_among, field_names}
use Rattle.sal_types.proofs.members.has_field.Given as goal

abbrev pub invariant-loop-member : goal.invariant-loop-member
invariant-loop-member l = is_among l.wanted (field_names (drop l.member-index l.members)) ≡ is_among l.wanted (field_names l.members)
