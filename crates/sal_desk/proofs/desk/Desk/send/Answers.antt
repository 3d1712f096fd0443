use Rattle.std.proofs.Common.{ap, sym, ◌∙◌}
use Rattle.std.proofs.lemmas.Result.{on_ok_weaker}
use Rattle.sal_routing.specs.State.{send}
use Rattle.sal_desk.specs.code.Desks.{turning_by, on_desk}
use Rattle.sal_desk.specs.code.Drafts.{desk_with}
use Rattle.sal_desk.specs.declared.draft.Draft.{Draft}
use Rattle.sal_desk.proofs.Desks.{unsent, sent_on}
use Rattle.sal_desk.proofs.desk.Desk.send.Goals as goal

pub returns-in-None : goal.returns-in-None
returns-in-None c = unsent c.args.self.now c.args.node c.args.envelope.now (sym c.in-None.is ∙ c.in_ok-spell.ensures.exact)

pub returns-in-Some : goal.returns-in-Some
returns-in-Some c =
    let t = c.self.inside.state.now in
    let d = c.self.inside.draft in
    on_ok_weaker c.push.result (λ h.
    ap (λ xs. turning_by d.arrived t (desk_with t (record d { sent = xs }))) h
    ∙ sent_on (turning_by d.arrived t (desk_with t d)) c.args.node c.args.envelope.now c.in-Some.bytes (sym c.in-Some.is ∙ c.in_ok-spell.ensures.exact)
    ∙ ap (on_desk (send c.args.node c.args.envelope.now)) c.self.view_is) c.push.ensures.ok
