use Rattle.std.proofs.Common.{None, ap, ◌∙◌}
use Rattle.std.specs.Option.{option_flatten}
use Rattle.std.specs.FinMap as fm
use Rattle.sal_value.specs.Table.{write}
use Rattle.sal_entries.proofs.Keys.{got, removed}
use Rattle.sal_entries.proofs.entries.Entries.take.Goals as goal

pub returns-clause-value : goal.returns-clause-value
returns-clause-value g c =
    c.flatten.ensures
    ∙ ap option_flatten (
    c.remove.ensures.value
    ∙ got g.K.Keyed.words g.K.Ord.cmp g.met.K.Keyed.by_words c.args.key.now c.self.inside.entries.entries
    ∙ ap (λ t. fm.get t (g.K.Keyed.words c.args.key.now)) c.self.view_is
    )

pub returns-clause-rest : goal.returns-clause-rest
returns-clause-rest g c =
    removed g.K.Keyed.words g.K.Ord.cmp g.met.K.Keyed.by_words c.args.key.now c.self.inside.entries.entries c.remove.new.self.entries c.remove.ensures.entries c.remove.ensures.updates.1
    ∙ ap (λ t. write t (g.K.Keyed.words c.args.key.now) None) c.self.view_is
