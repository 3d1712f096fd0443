use Rattle.std.proofs.Common.{◌≡◌, ◌≤◌, drop}
use Rattle.sal_state.specs.code.Named.{field_position}
use Rattle.sal_state.proofs.fields.field_position.Given as goal

abbrev pub invariant-loop-member : goal.invariant-loop-member
invariant-loop-member l = record {
  counted : l.index ≤ l.member-index;
  same : field_position l.name l.index (drop l.member-index l.members) ≡ field_position l.name 0 l.members;
}
