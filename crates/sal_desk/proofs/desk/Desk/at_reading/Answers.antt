use Rattle.std.proofs.Common.{map, filter, ap, ◌∙◌}
use Rattle.std.specs.Prelude.{max}
use Rattle.sal_routing.specs.State.{Theatre, moment}
use Rattle.sal_routing.specs.Routing.{call_made}
use Rattle.sal_routing.specs.Turns.{is_reached, by_moment}
use Rattle.sal_desk.proofs.Desks.{held_filled, reads}
use Rattle.sal_desk.proofs.desk.Desk.at_reading.Goals as goal

pub invariant_of-result : goal.invariant_of-result
invariant_of-result c = held_filled c.state.inside.lists.held c.args.state.now.held (ap (λ (t : Theatre). t.held) c.state.view_is)

pub returns : goal.returns
returns c =
    let t = c.args.state.now in
    reads t c.new-draft.result c.later-now.result c.state.inside.next_anon c.args.ms c.in_ok-work.work.items c.new-draft.ensures.arrived (c.new-draft.ensures.desk t)
    (c.later-now.ensures ∙ ap (λ (u : Theatre). max u.clock (moment c.args.ms)) c.state.view_is)
    (ap (λ (u : Theatre). u.next_anon) c.state.view_is)
    (c.in_ok-work.ensures ∙ ap (λ ms. map (λ x. call_made x.1) (by_moment (filter (is_reached c.later-now.result) ms))) c.as_slice.ensures.value
    ∙ ap (λ (u : Theatre). map (λ x. call_made x.1) (by_moment (filter (is_reached c.later-now.result) u.delayed))) c.state.view_is)
