use Rattle.std.proofs.Common.{ap, ◌∙◌}
use Rattle.std.specs.FinMap as fm
use Rattle.sal_entries.proofs.Keys.{length_is}
use Rattle.sal_entries.proofs.entries.Entries.len.Goals as goal

pub returns : goal.returns
returns g c =
    c.len.ensures.len
    ∙ length_is g.K.Keyed.words g.K.Ord.cmp g.met.K.Keyed.by_words c.self.inside.entries.entries c.len.ensures.ordered
    ∙ ap fm.len c.self.view_is
