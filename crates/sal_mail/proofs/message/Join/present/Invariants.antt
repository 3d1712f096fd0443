use Rattle.std.proofs.Common.{◌≡◌}
use Rattle.sal_mail.specs.Message.{slot_values}
use Rattle.sal_mail.proofs.message.Join.present.Given as goal

abbrev pub invariant-loop-place : goal.invariant-loop-place
invariant-loop-place l = l.values ≡ slot_values l.yielded
