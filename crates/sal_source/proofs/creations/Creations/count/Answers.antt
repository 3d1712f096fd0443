use Rattle.std.proofs.Common.{sym, ap, ◌∙◌}
use Rattle.std.specs.FinMap as fm
use Rattle.sal_value.specs.declared.name.Name.{Name}
use Rattle.sal_mail.specs.declared.effects.Creation.{Creation}
use Rattle.sal_source.specs.Table.{Table}
use Rattle.sal_source.specs.Keys.{creation_key}
use Rattle.sal_source.proofs.Tables.{len-table_of}
use Rattle.sal_source.proofs.creations.Creations.count.Goals as goal

pub returns : goal.returns
returns c = c.len.ensures ∙ sym (len-table_of creation_key c.self.inside.items c.self.invariant) ∙ ap (λ (t : Table (Name × Creation)). fm.len t) c.self.view_is
