use Rattle.std.proofs.Common.{ap, ◌∙◌}
use Rattle.std.proofs.lemmas.Result.{on_ok_weaker}
use Rattle.sal_routing.specs.Routing.{put_resident}
use Rattle.sal_desk.specs.code.Desks.{on_desk, on_theatre}
use Rattle.sal_desk.proofs.Desks.{residents_put}
use Rattle.sal_desk.proofs.desk.Desk.put_resident.Goals as goal

pub returns : goal.returns
returns c =
    let t = c.self.inside.state.now in
    let d = c.self.inside.draft in
    on_ok_weaker c.put.result (λ h. residents_put t d c.args.actor c.put.new.self h ∙ ap (on_desk (on_theatre (put_resident c.args.actor))) c.self.view_is) c.put.ensures.ok
