use Rattle.std.proofs.Common.{take}
use Rattle.sal_value.specs.Names.{NonePass, ends_host}
use Rattle.sal_value.proofs.reading.host_len.Given as goal

abbrev pub invariant-loop-at : goal.invariant-loop-at
invariant-loop-at l = NonePass ends_host (take l.at l.text)
