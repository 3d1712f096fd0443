use Rattle.std.proofs.Common.{ap, ◌∙◌}
use Rattle.std.specs.FinMap as fm
use Rattle.sal_entries.specs.Entries.{word_entries}
use Rattle.sal_entries.proofs.Keys.{entries_are}
use Rattle.sal_entries.proofs.entries.Entries.iter.Goals as goal

pub returns-clause-in_order : goal.returns-clause-in_order
returns-clause-in_order g c =
    ap (word_entries g.K.Keyed.words) c.iter.ensures.rest
    ∙ entries_are g.K.Keyed.words g.K.Ord.cmp g.met.K.Keyed.by_words c.self.inside.entries.entries c.iter.ensures.ordered
    ∙ ap fm.entries c.self.view_is
