use Rattle.std.proofs.Common.{◌≡◌, take}
use Rattle.std.specs.Prelude.{filter}
use Rattle.sal_mail.specs.Message.{is_other}
use Rattle.sal_mail.proofs.message.Message.others.Given as goal

abbrev pub invariant-loop-n : goal.invariant-loop-n
invariant-loop-n l = l.left ≡ filter (is_other l.number) (take l.n-index l.numbers)
