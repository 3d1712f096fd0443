use Rattle.std.proofs.Common.{◌≡◌, filter_map, drop}
use Rattle.std.specs.List.{list_any}
use Rattle.sal_ast.specs.Members.{as_handler}
use Rattle.sal_types.specs.Signatures.{is_act}
use Rattle.sal_types.proofs.numbers.has_act_member.Given as goal

abbrev pub invariant-loop-member : goal.invariant-loop-member
invariant-loop-member l = list_any is_act (filter_map as_handler (drop l.member-index l.members)) ≡ list_any is_act (filter_map as_handler l.members)
