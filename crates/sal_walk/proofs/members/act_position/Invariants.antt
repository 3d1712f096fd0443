use Rattle.std.proofs.Common.{◌≡◌, ◌≤◌, drop, filter_map}
use Rattle.std.specs.List.{position_from}
use Rattle.sal_ast.specs.Members.{as_handler}
use Rattle.sal_handler.specs.Handler.{is_act}
use Rattle.sal_walk.proofs.members.act_position.Given as goal

abbrev pub invariant-loop-member : goal.invariant-loop-member
invariant-loop-member l = record {
  counted : l.at ≤ l.member-index;
  same : position_from is_act l.at (filter_map as_handler (drop l.member-index l.members)) ≡ position_from is_act 0 (filter_map as_handler l.members);
}
