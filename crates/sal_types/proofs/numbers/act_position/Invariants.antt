use Rattle.std.proofs.Common.{◌≡◌, ◌≤◌, ◌+◌, length, drop}
use Rattle.std.specs.List.{filter_map, position_or_len}
use Rattle.sal_ast.specs.Members.{as_handler}
use Rattle.sal_types.specs.Signatures.{is_act}
use Rattle.sal_types.proofs.numbers.act_position.Given as goal

abbrev pub invariant-loop-member : goal.invariant-loop-member
invariant-loop-member l = record {
  few : l.number ≤ l.member-index;
  place : l.number + position_or_len is_act (filter_map as_handler (drop l.member-index l.members)) ≡ position_or_len is_act (filter_map as_handler l.members);
  all : l.number + length (filter_map as_handler (drop l.member-index l.members)) ≡ length (filter_map as_handler l.members);
}
