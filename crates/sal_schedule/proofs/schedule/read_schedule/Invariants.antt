use Rattle.std.proofs.Common.{◌≡◌, ◌≤◌, length}
use Rattle.sal_schedule.specs.Lines.{lines_of}
use Rattle.sal_schedule.specs.Schedules.{events_from}
use Rattle.sal_schedule.proofs.Runs.{before}
use Rattle.sal_schedule.proofs.schedule.read_schedule.Given as goal

abbrev pub invariant-loop-rest : goal.invariant-loop-rest
invariant-loop-rest l = record {
  told : before l.events (events_from l.program l.plan l.number l.last (lines_of l.rest)) ≡ events_from l.program l.plan 1 0 (lines_of l.bytes);
  few : l.number ≤ 100001;
}

abbrev pub decreases-loop-rest : goal.decreases-loop-rest
decreases-loop-rest l = length l.rest
