use Rattle.std.proofs.Common.{ap, ◌∙◌}
use Rattle.std.proofs.lemmas.Result.{on_ok_weaker}
use Rattle.sal_routing.specs.Handling.{put_pending}
use Rattle.sal_desk.specs.code.Desks.{on_desk, on_theatre}
use Rattle.sal_desk.proofs.Desks.{pending_put}
use Rattle.sal_desk.proofs.desk.Desk.put_pending.Goals as goal

pub returns : goal.returns
returns c =
    let t = c.self.inside.state.now in
    let d = c.self.inside.draft in
    on_ok_weaker c.set.result (λ h. pending_put t d c.args.pending c.set.new.self c.in_ok-clone_in.field-0 c.in_ok-clone_in.ensures h ∙ ap (on_desk (put_pending c.args.pending)) c.self.view_is) c.set.ensures.ok
