use Rattle.std.proofs.Common.{sym, ap, ◌∙◌}
use Rattle.std.specs.FinMap as fm
use Rattle.sal_source.specs.Keys.{made_key}
use Rattle.sal_routing.specs.State.{Theatre}
use Rattle.sal_desk.specs.code.Desks.{Turning}
use Rattle.sal_desk.proofs.Overlays.{from_changes, from_before}
use Rattle.sal_desk.proofs.desk.Desk.pending_at.Goals as goal

pub returns-then-contains : goal.returns-then-contains
returns-then-contains c =
    let k = made_key c.args.key.now.1 c.args.key.now.0 in
    from_changes c.self.inside.draft.pending c.self.inside.state.now.pending k _ (sym c.contains.ensures ∙ c.if-contains.true) c.get.ensures
    ∙ ap (λ (x : Turning). fm.get x.desk.theatre.pending k) c.self.view_is

pub returns : goal.returns
returns c =
    let k = made_key c.args.key.now.1 c.args.key.now.0 in
    from_before c.self.inside.draft.pending c.self.inside.state.now.pending k c.state.inside.lists.pending _ (sym c.contains.ensures ∙ c.if-contains.false) c.get-2.ensures (ap (λ (t : Theatre). t.pending) c.state.view_is)
    ∙ ap (λ (x : Turning). fm.get x.desk.theatre.pending k) c.self.view_is
