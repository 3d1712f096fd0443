use Rattle.std.proofs.Common.{ap, ◌∙◌}
use Rattle.sal_value.specs.Order.{uan_key}
use Rattle.sal_value.proofs.Entries.{inserted}
use Rattle.sal_naming.specs.Table.{Names, keep}
use Rattle.sal_naming.proofs.Changes.{none_is, puts}
use Rattle.sal_naming.proofs.names.Names.put.Goals as goal

pub returns-clause-ok : goal.returns-clause-ok
returns-clause-ok c =
    puts c.args.name c.args.place c.new.result c.args.self.now _
    (none_is c.entry.result c.is_some.result c.is_some.ensures c.if-is_some.false ∙ c.entry.ensures)
    c.new.ensures
    (inserted uan_key c.args.name c.new.result c.self.inside.entries.entries c.insert.new.self.entries c.in_ok-insert.ensures.entries ∙ ap (λ (t : Names). keep c.args.name c.new.result t) c.self.view_is)
