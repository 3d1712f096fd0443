use Rattle.std.proofs.Common.{◌≡◌, ◌≤◌, ◌+◌, length, drop}
use Rattle.std.specs.List.{filter_map, position_or_len}
use Rattle.std.specs.Str.{bytes_eq}
use Rattle.sal_ast.specs.Members.{Handler, as_handler}
use Rattle.sal_types.proofs.numbers.handler_position.Given as goal

abbrev pub invariant-loop-member : goal.invariant-loop-member
invariant-loop-member l = record {
  few : l.number ≤ l.member-index;
  place : l.number + position_or_len (λ (h : Handler). bytes_eq h.name l.name) (filter_map as_handler (drop l.member-index l.members)) ≡ position_or_len (λ (h : Handler). bytes_eq h.name l.name) (filter_map as_handler l.members);
  all : l.number + length (filter_map as_handler (drop l.member-index l.members)) ≡ length (filter_map as_handler l.members);
}
