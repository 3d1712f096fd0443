use Rattle.std.proofs.Common.{ap, ◌∙◌}
use Rattle.std.proofs.lemmas.Result.{on_ok_weaker}
use Rattle.sal_routing.specs.Routing.{put_held}
use Rattle.sal_desk.specs.code.Desks.{on_desk, on_theatre}
use Rattle.sal_desk.proofs.Desks.{held_put}
use Rattle.sal_desk.proofs.desk.Desk.put_held.Goals as goal

pub returns : goal.returns
returns c =
    let t = c.self.inside.state.now in
    let d = c.self.inside.draft in
    on_ok_weaker c.push.result (λ h. held_put t d c.args.name c.args.item c.push.new.self c.self.invariant h ∙ ap (on_desk (put_held c.args.name c.args.item)) c.self.view_is) c.push.ensures.ok
