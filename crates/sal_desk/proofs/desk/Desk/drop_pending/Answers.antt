use Rattle.std.proofs.Common.{ap, ◌∙◌}
use Rattle.std.proofs.lemmas.Result.{on_ok_weaker}
use Rattle.sal_routing.specs.Turns.{drop_pending}
use Rattle.sal_desk.specs.code.Desks.{on_desk, on_theatre}
use Rattle.sal_desk.proofs.Desks.{pending_dropped}
use Rattle.sal_desk.proofs.desk.Desk.drop_pending.Goals as goal

pub returns : goal.returns
returns c =
    let t = c.self.inside.state.now in
    let d = c.self.inside.draft in
    on_ok_weaker c.set.result (λ h. pending_dropped t d c.args.maker c.args.serial c.set.new.self h ∙ ap (on_desk (drop_pending c.args.maker c.args.serial)) c.self.view_is) c.set.ensures.ok
