use Rattle.std.proofs.Common.{sym, ◌∙◌}
use Rattle.sal_spelled.proofs.Rising.{rise_goes_on}
use Rattle.sal_spelled.proofs.actors.joins_rise.Goals as goal

pub loop-join-preserved : goal.loop-join-preserved
loop-join-preserved c =
    rise_goes_on (λ m. m.number) c.args.joins.now c.loop-join.join-index c.join-item.result c.loop-join.before c.loop-join-test.true c.join-item.is
    (sym c.is_above.ensures ∙ c.if-not-is_above.false) c.loop-join.invariant
