use Rattle.std.proofs.Common.{◌++◌, filter, sym, ap, ◌∙◌}
use Rattle.sal_mail.specs.Message.{is_for}
use Rattle.sal_routing.specs.State.{Theatre}
use Rattle.sal_desk.specs.code.Desks.{Turning}
use Rattle.sal_desk.specs.code.Drafts.{without_taken, without_calls}
use Rattle.sal_desk.proofs.Ready.{filter_both}
use Rattle.sal_desk.proofs.desk.Desk.calls_for.Goals as goal

pub returns : goal.returns
returns c =
    let d = c.self.inside.draft in
    let t : Theatre = c.self.inside.state.now in
    let p = is_for c.args.name.now in
    let ready = c.state.inside.lists.ready.items in
    let before =
    c.in_ok-add_ready_calls.ensures
    ∙ ap (λ xs. xs ++ filter p (without_calls c.as_slice-left.result.now (without_taken d.taken ready))) c.new-calls.ensures
    ∙ ap (λ names. filter p (without_calls names (without_taken d.taken ready))) c.as_slice-left.ensures
    ∙ ap (λ (u : Theatre). filter p (without_calls d.left (without_taken d.taken u.ready))) c.state.view_is in
    c.in_ok-add_calls.ensures
    ∙ ap (λ ms. c.add_ready_calls.new.calls ++ filter p ms) c.as_slice.ensures
    ∙ ap (λ xs. xs ++ filter p d.ready) before
    ∙ sym (filter_both p (without_calls d.left (without_taken d.taken t.ready)) d.ready)
    ∙ ap (λ (x : Turning). filter p x.desk.theatre.ready) c.self.view_is
