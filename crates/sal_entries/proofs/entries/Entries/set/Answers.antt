use Rattle.std.proofs.Common.{Some, ap, ◌∙◌}
use Rattle.sal_value.specs.Table.{write}
use Rattle.sal_entries.proofs.Keys.{inserted}
use Rattle.sal_entries.proofs.entries.Entries.set.Goals as goal

pub returns-clause-ok : goal.returns-clause-ok
returns-clause-ok g c =
    inserted g.K.Keyed.words g.K.Ord.cmp g.met.K.Keyed.by_words c.args.key c.args.value c.self.inside.entries.entries c.insert.new.self.entries c.in_ok-insert.ensures.entries
    ∙ ap (λ t. write t (g.K.Keyed.words c.args.key) (Some c.args.value)) c.self.view_is
