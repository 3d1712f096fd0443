use Rattle.std.proofs.Common.{◌≡◌, ◌++◌, drop, filter_map}
use Rattle.sal_ast.specs.Members.{as_field}
use Rattle.sal_handler.specs.Handler as spec
use Rattle.sal_walk.proofs.new_fields.default_fields.Given as goal

abbrev pub invariant-loop-member : goal.invariant-loop-member
invariant-loop-member l = l.fields ++ spec.default_fields (filter_map as_field (drop l.member-index l.members)) ≡ spec.default_fields (filter_map as_field l.members)
