use Rattle.std.proofs.Common.{take}
use Rattle.sal_value.specs.Names.{NonePass, is_slash}
use Rattle.sal_value.proofs.reading.port_len.Given as goal

abbrev pub invariant-loop-at : goal.invariant-loop-at
invariant-loop-at l = NonePass is_slash (take l.at l.text)
