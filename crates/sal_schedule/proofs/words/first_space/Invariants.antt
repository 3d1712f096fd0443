use Rattle.sal_schedule.proofs.Cutting.{IsInside}
use Rattle.sal_schedule.proofs.words.first_space.Given as goal

abbrev pub invariant-loop-at : goal.invariant-loop-at
invariant-loop-at l = IsInside l.line l.mode l.at
