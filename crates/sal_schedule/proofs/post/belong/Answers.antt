use Rattle.std.proofs.Common.{arith}
use Rattle.sal_schedule.specs.Events.{belong}
use Rattle.sal_schedule.proofs.Belonging.{short}
use Rattle.sal_schedule.proofs.post.belong.Goals as goal

pub returns-in_default : goal.returns-in_default
returns-in_default c =
    short c.args.sorts.now c.loop-sort.sort-index c.loop-sort.rest.now (belong c.args.sorts.now c.args.values.now) c.loop-sort-test.true (omega (arith, c.in_default.len_below)) c.loop-sort.invariant
