use Rattle.std.proofs.Common.{◌≡◌, drop}
use Rattle.sal_sorts.specs.Messages.{waitfor_verdict}
use Rattle.sal_sorts.specs.code.Messaging.{units_result}
use Rattle.sal_sorts.proofs.message.judge_waitfors.Given as goal

abbrev pub invariant-loop-name : goal.invariant-loop-name
invariant-loop-name l = units_result (waitfor_verdict l.env) (drop l.name-index l.names) ≡ units_result (waitfor_verdict l.env) l.fn.names
