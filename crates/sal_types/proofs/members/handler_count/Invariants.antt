use Rattle.std.proofs.Common.{◌≡◌, ◌≤◌, ◌+◌, length, drop}
use Rattle.sal_types.specs.Members.{handler_names}
use Rattle.sal_types.proofs.members.handler_count.Given as goal

abbrev pub invariant-loop-member : goal.invariant-loop-member
invariant-loop-member l = record {
  few : l.count ≤ l.member-index;
  all : l.count + length (handler_names (drop l.member-index l.members)) ≡ length (handler_names l.members);
}
