use Rattle.std.proofs.Common.{sym, ap, ◌∙◌}
use Rattle.std.specs.FinMap as fm
use Rattle.sal_value.specs.Order.{uan_key}
use Rattle.sal_routing.specs.State.{Theatre}
use Rattle.sal_desk.specs.code.Desks.{Turning}
use Rattle.sal_desk.proofs.Overlays.{from_changes, from_before}
use Rattle.sal_desk.proofs.desk.Desk.question.Goals as goal

pub returns-then-contains : goal.returns-then-contains
returns-then-contains c =
    let k = uan_key c.args.name.now in
    from_changes c.self.inside.draft.questions c.self.inside.state.now.questions k _ (sym c.contains.ensures ∙ c.if-contains.true) c.get.ensures
    ∙ ap (λ (x : Turning). fm.get x.desk.theatre.questions k) c.self.view_is

pub returns : goal.returns
returns c =
    let k = uan_key c.args.name.now in
    from_before c.self.inside.draft.questions c.self.inside.state.now.questions k c.state.inside.lists.questions _ (sym c.contains.ensures ∙ c.if-contains.false) c.get-2.ensures (ap (λ (t : Theatre). t.questions) c.state.view_is)
    ∙ ap (λ (x : Turning). fm.get x.desk.theatre.questions k) c.self.view_is
