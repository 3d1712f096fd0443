use Rattle.std.proofs.Common.{refl, sym, ap, ◌∙◌}
use Rattle.std.specs.FinMap as fm
use Rattle.sal_source.specs.Keys.{made_key}
use Rattle.sal_entries.specs.Entries.{values}
use Rattle.sal_entries.proofs.Overlays.{from_changes, from_before}
use Rattle.sal_lists.specs.code.Settling.{Settling}
use Rattle.sal_lists.proofs.settling.Settling.join_at.Goals as goal

pub returns-then-contains : goal.returns-then-contains
returns-then-contains c =
    let k = made_key c.args.key.now.1 c.args.key.now.0 in
    from_changes c.self.inside.changes (values c.self.inside.before.now) k _ (sym c.contains.ensures ∙ c.if-contains.true) c.get.ensures
    ∙ ap (λ (s : Settling). fm.get s.joins k) c.self.view_is

pub returns : goal.returns
returns c =
    let k = made_key c.args.key.now.1 c.args.key.now.0 in
    from_before c.self.inside.changes (values c.self.inside.before.now) k c.self.inside.before.now _ (sym c.contains.ensures ∙ c.if-contains.false) c.get-2.ensures refl
    ∙ ap (λ (s : Settling). fm.get s.joins k) c.self.view_is
