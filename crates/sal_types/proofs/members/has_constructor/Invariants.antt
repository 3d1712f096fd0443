use Rattle.std.proofs.Common.{◌≡◌, length, nat_lt, filter_map, drop}
use Rattle.sal_ast.specs.Members.{as_constructor}
use Rattle.sal_types.proofs.members.has_constructor.Given as goal

abbrev pub invariant-loop-member : goal.invariant-loop-member
invariant-loop-member l = nat_lt 0 (length (filter_map as_constructor (drop l.member-index l.members))) ≡ nat_lt 0 (length (filter_map as_constructor l.members))
