use Rattle.std.proofs.Common.{◌≡◌, ◌++◌, drop, map}
use Rattle.sal_mail.specs.Lines.{fault_line}
use Rattle.salsa.specs.Top.{concat_texts}
use Rattle.salsa.proofs.run.fault_lines.Given as goal

abbrev pub invariant-loop-fault : goal.invariant-loop-fault
invariant-loop-fault l = l.bytes ++ concat_texts (map fault_line (drop l.fault-index l.faults)) ≡ concat_texts (map fault_line l.faults)
