use Rattle.std.proofs.Common.{ap, ◌∙◌}
use Rattle.std.specs.FinMap as fm
use Rattle.sal_entries.proofs.Keys.{entries_are}
use Rattle.sal_entries.proofs.Laws.{none-listed, whether_none}
use Rattle.sal_entries.proofs.entries.Entries.is_empty.Goals as goal

pub returns : goal.returns
returns g c =
    let entries = c.self.inside.entries.entries in
    whether_none c.has_value.result c.args.self.now (
    c.has_value.ensures.value
    ∙ none-listed g.K.Keyed.words entries c.args.self.now (entries_are g.K.Keyed.words g.K.Ord.cmp g.met.K.Keyed.by_words entries c.has_value.ensures.ordered ∙ ap fm.entries c.self.view_is)
    )
