use Rattle.std.proofs.Common.{◌≡◌, drop}
use Rattle.sal_infer.specs.code.Finding.{handler_type}
use Rattle.sal_infer.proofs.members.handler_type.Given as goal

abbrev pub invariant-loop-member : goal.invariant-loop-member
invariant-loop-member l = handler_type l.name (drop l.member-index l.members) ≡ handler_type l.name l.members
