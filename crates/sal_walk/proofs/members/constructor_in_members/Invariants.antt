use Rattle.std.proofs.Common.{◌≡◌, drop, filter_map, slice_get}
use Rattle.sal_ast.specs.Members.{as_constructor}
use Rattle.sal_walk.proofs.members.constructor_in_members.Given as goal

abbrev pub invariant-loop-member : goal.invariant-loop-member
invariant-loop-member l = slice_get (filter_map as_constructor (drop l.member-index l.members)) 0 ≡ slice_get (filter_map as_constructor l.members) 0
