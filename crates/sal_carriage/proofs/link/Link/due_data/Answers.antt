use Rattle.std.proofs.Common.{rules, arith, map, take, length, ap}
use Rattle.std.proofs.lemmas.List.{length-take}
use Rattle.sal_carriage.specs.Link as spec
use Rattle.sal_carriage.proofs.Due.{one_more_due, all_are_due}
use Rattle.sal_carriage.proofs.link.Link.due_data.Goals as goal

pub loop-at-preserved : goal.loop-at-preserved
loop-at-preserved c =
    one_more_due c.args.now c.args.self.now c.loop-at.at c.at-fragment.result.now c.loop-at.datagrams c.push_due.new.datagrams
    (map spec.datagram_of (spec.due_data c.args.now c.args.self.now c.args.self.now.acknowledged (take spec.window c.args.self.now.unacknowledged)))
    (search (rules, arith)) (search rules) c.loop-at.invariant (search rules)

pub returns : goal.returns
returns c =
    all_are_due c.args.now c.args.self.now c.loop-at.at c.loop-at.datagrams
    (map spec.datagram_of (spec.due_data c.args.now c.args.self.now c.args.self.now.acknowledged (take spec.window c.args.self.now.unacknowledged)))
    (omega (arith, length-take 32 c.args.self.now.unacknowledged, c.loop-at-test.false, c.min-at-end.ensures, c.len.ensures, ap (λ (k : spec.Link). length k.unacknowledged) c.self.view_is)) c.loop-at.invariant
