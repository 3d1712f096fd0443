use Rattle.std.proofs.Common.{◌≡◌, drop}
use Rattle.sal_schedule.specs.Events.{belong}
use Rattle.sal_schedule.proofs.post.belong.Given as goal

abbrev pub invariant-loop-sort : goal.invariant-loop-sort
invariant-loop-sort l = belong (drop l.sort-index l.sorts) l.rest ≡ belong l.sorts l.values
