use Rattle.std.proofs.Common.{ap, ◌∙◌}
use Rattle.std.proofs.lemmas.Result.{on_ok_weaker}
use Rattle.sal_routing.specs.Routing.{put_question}
use Rattle.sal_desk.specs.code.Desks.{on_desk, on_theatre}
use Rattle.sal_desk.proofs.Desks.{questions_put}
use Rattle.sal_desk.proofs.desk.Desk.put_question.Goals as goal

pub returns : goal.returns
returns c =
    let t = c.self.inside.state.now in
    let d = c.self.inside.draft in
    on_ok_weaker c.set.result (λ h. questions_put t d c.args.question c.set.new.self c.in_ok-name.name c.in_ok-name.ensures h ∙ ap (on_desk (on_theatre (put_question c.args.question))) c.self.view_is) c.set.ensures.ok
