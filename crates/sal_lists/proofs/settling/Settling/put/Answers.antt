use Rattle.std.proofs.Common.{ap, ◌∙◌}
use Rattle.std.proofs.lemmas.Result.{on_ok_weaker}
use Rattle.sal_value.specs.Table.{write}
use Rattle.sal_source.specs.Keys.{made_key}
use Rattle.sal_entries.specs.Entries.{values}
use Rattle.sal_entries.proofs.Overlays.{changed}
use Rattle.sal_lists.specs.code.Settling.{Settling, settling}
use Rattle.sal_lists.proofs.settling.Settling.put.Goals as goal

pub returns : goal.returns
returns c =
    let before = values c.self.inside.before.now in
    let k = made_key c.args.key.1 c.args.key.0 in
    on_ok_weaker c.set.result (λ h. ap (settling before) (changed c.self.inside.changes before k c.args.join c.set.new.self h)
    ∙ ap (λ (s : Settling). settling s.before (write s.joins k c.args.join)) c.self.view_is) c.set.ensures.ok
