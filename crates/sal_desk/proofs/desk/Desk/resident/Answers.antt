use Rattle.std.proofs.Common.{sym, ap, ◌∙◌}
use Rattle.std.specs.Option.{is_some}
use Rattle.std.specs.FinMap as fm
use Rattle.sal_source.specs.Keys.{name_key}
use Rattle.sal_routing.specs.State.{Theatre}
use Rattle.sal_desk.specs.code.Desks.{Turning}
use Rattle.sal_desk.proofs.Overlays.{some_copied, from_changes, from_before}
use Rattle.sal_desk.proofs.desk.Desk.resident.Goals as goal

pub returns-then-is_some-clause-resident : goal.returns-then-is_some-clause-resident
returns-then-is_some-clause-resident c =
    let k = name_key c.args.name.now in
    from_changes c.self.inside.draft.residents c.self.inside.state.now.residents k _
    (sym (ap is_some c.entry.ensures) ∙ sym (some_copied c.entry.result) ∙ sym c.is_some.ensures ∙ c.if-is_some.true) c.get.ensures.actor
    ∙ ap (λ (x : Turning). fm.get x.desk.theatre.residents k) c.self.view_is

pub returns-clause-resident : goal.returns-clause-resident
returns-clause-resident c =
    let k = name_key c.args.name.now in
    from_before c.self.inside.draft.residents c.self.inside.state.now.residents k c.state.inside.lists.residents _
    (sym (ap is_some c.entry.ensures) ∙ sym (some_copied c.entry.result) ∙ sym c.is_some.ensures ∙ c.if-is_some.false) c.get-2.ensures.actor (ap (λ (t : Theatre). t.residents) c.state.view_is)
    ∙ ap (λ (x : Turning). fm.get x.desk.theatre.residents k) c.self.view_is
