use Rattle.std.proofs.Common.{ap, ◌∙◌}
use Rattle.std.specs.FinMap as fm
use Rattle.sal_entries.proofs.Keys.{got}
use Rattle.sal_entries.proofs.entries.Entries.entry.Goals as goal

pub returns : goal.returns
returns g c =
    c.get.ensures.value
    ∙ got g.K.Keyed.words g.K.Ord.cmp g.met.K.Keyed.by_words c.args.key.now c.self.inside.entries.entries
    ∙ ap (λ t. fm.get t (g.K.Keyed.words c.args.key.now)) c.self.view_is
