use Rattle.std.proofs.Common.{Some}
use Rattle.sal_mail.specs.declared.message.Join.{Join}
use Rattle.sal_resident.specs.Unpacking.{each_numbered_at, join_at}
use Rattle.sal_resident.proofs.Rows.{goes_on}
use Rattle.sal_resident.proofs.reading.each_join.Goals as goal

pub loop-preserved : goal.loop-preserved
loop-preserved c =
    rw c.in_ok-push.ensures.ok (goes_on (λ (x : Join). Some x.number) join_at c.loop.before c.loop.joins c.args.count c.loop.counter c.loop.rest.now c.in_ok-join.join c.in_ok-join.after.now
    (each_numbered_at (λ (x : Join). x.number) join_at c.args.count c.args.bytes.now) c.loop-test.true c.in_ok-join.ensures c.loop.invariant)
