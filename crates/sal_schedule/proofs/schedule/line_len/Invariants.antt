use Rattle.std.proofs.Common.{take}
use Rattle.sal_value.specs.Names.{NonePass}
use Rattle.sal_schedule.specs.Lines.{is_line_feed}
use Rattle.sal_schedule.proofs.schedule.line_len.Given as goal

abbrev pub invariant-loop-at : goal.invariant-loop-at
invariant-loop-at l = NonePass is_line_feed (take l.at l.text)
