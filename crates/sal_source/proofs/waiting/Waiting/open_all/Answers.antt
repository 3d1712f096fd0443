use Rattle.std.proofs.Common.{◌∙◌}
use Rattle.sal_source.proofs.Waits.{OpenStep, open_step}
use Rattle.sal_source.proofs.waiting.Waiting.open_all.Goals as goal

pub loop-join-preserved : goal.loop-join-preserved
loop-join-preserved c =
    let s : OpenStep c.args.maker.now c.loop-join.more c.pop.new.self c.loop-join.self c.open.new.self c.loop-join.left c.open.new.left =
    open_step c.args.maker.now c.loop-join.more c.pop.new.self c.in-Some.join c.loop-join.self c.open.new.self c.loop-join.left c.open.new.left c.in-Some.ensures c.in_ok-open.ensures in
    record { same = s.same ∙ c.loop-join.invariant.same; messages = s.messages ∙ c.loop-join.invariant.messages; gives = s.gives ∙ c.loop-join.invariant.gives }
