use Rattle.std.proofs.Common.{None, ap, ◌∙◌}
use Rattle.sal_routing.specs.State.{Theatre, desk}
use Rattle.sal_desk.proofs.Desks.{held_filled, begins}
use Rattle.sal_desk.specs.code.Drafts.{theatre_at}
use Rattle.sal_desk.proofs.desk.Desk.new.Goals as goal

pub invariant_of-result : goal.invariant_of-result
invariant_of-result c = held_filled c.state.inside.lists.held c.args.state.now.held (ap (λ (t : Theatre). t.held) c.state.view_is)

pub returns : goal.returns
returns c =
    let t = c.args.state.now in
    begins t c.new.result None _ c.new.ensures.arrived (c.new.ensures.desk t ∙ ap (λ (u : Theatre). desk (theatre_at u.clock u.next_anon None None None t)) c.state.view_is)
