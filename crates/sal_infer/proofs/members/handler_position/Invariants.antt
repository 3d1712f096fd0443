use Rattle.std.proofs.Common.{◌≡◌, ◌+◌, ◌≤◌, drop}
use Rattle.std.specs.Prelude.{option_map}
use Rattle.sal_infer.specs.code.Finding.{handler_position}
use Rattle.sal_infer.proofs.members.handler_position.Given as goal

abbrev pub invariant-loop-member : goal.invariant-loop-member
invariant-loop-member l = record {
  counted : l.at ≤ l.member-index;
  same : option_map (λ n. l.at + n) (handler_position l.name (drop l.member-index l.members)) ≡ handler_position l.name l.members;
}
