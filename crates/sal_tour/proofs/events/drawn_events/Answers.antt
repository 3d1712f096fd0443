use Rattle.std.proofs.Common.{◌∙◌, sym}
use Rattle.sal_tour.proofs.Drawing.{on, ends}
use Rattle.sal_tour.proofs.events.drawn_events.Goals as goal

pub loop-turn-preserved : goal.loop-turn-preserved
loop-turn-preserved c =
    on _ c.loop-turn.events.items c.push.new.self.items c.args.count c.loop-turn._turn c.loop-turn.state c.draw_event-event.new.state c.draw_event-event.result
    c.loop-turn-test.true c.loop-turn.invariant c.draw_event-event.ensures (c.in_ok-push.ensures.items)

pub returns : goal.returns
returns c = c.from_vec.ensures ∙ sym (ends _ c.loop-turn.events.items c.args.count c.loop-turn._turn c.loop-turn.state c.loop-turn-test.false c.loop-turn.invariant)
