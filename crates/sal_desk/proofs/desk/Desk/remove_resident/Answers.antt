use Rattle.std.proofs.Common.{filter, sym, ap, ◌∙◌}
use Rattle.std.proofs.lemmas.Result.{on_ok_weaker}
use Rattle.sal_mail.specs.Message.{is_not_for}
use Rattle.sal_resident.specs.declared.resident.Resident.{Resident}
use Rattle.sal_routing.specs.Arrivals.{without_resident}
use Rattle.sal_routing.specs.State.{Theatre}
use Rattle.sal_desk.specs.declared.draft.Draft.{Draft}
use Rattle.sal_desk.specs.code.Desks.{on_desk, on_theatre}
use Rattle.sal_desk.proofs.Desks.{left_here}
use Rattle.sal_desk.proofs.desk.Desk.remove_resident.Goals as goal

pub returns : goal.returns
returns c =
    let d : Draft = c.self.inside.draft in
    let t : Theatre = c.self.inside.state.now in
    let r : Resident = c.args.actor.now in
    let named = ap (λ (x : Resident). x.name) c.resident.ensures.resident in
    on_ok_weaker c.remove.result (λ h.
    left_here t d r c.in_ok-clone_in.field-0 c.in_ok-clone_in-2.field-0 c.remove.new.self c.push.new.self c.others.result
    (c.in_ok-clone_in.ensures ∙ named) (c.in_ok-clone_in-2.ensures ∙ named)
    (c.others.ensures ∙ ap (λ xs. filter (is_not_for c.resident.result.now.name) xs) c.replace-ready.ensures.value ∙ ap (λ (x : Resident). filter (is_not_for x.name) d.ready) c.resident.ensures.resident)
    c.in_ok-push.ensures.ok h
    ∙ ap (on_desk (on_theatre (without_resident r))) c.self.view_is) c.remove.ensures.ok
