use Rattle.std.proofs.Common.{ap, ◌∙◌}
use Rattle.sal_value.specs.Order.{uan_key}
use Rattle.sal_value.proofs.Entries.{got}
use Rattle.sal_naming.specs.Table.{Names, entry_of}
use Rattle.sal_naming.proofs.names.Names.entry.Goals as goal

pub returns : goal.returns
returns c =
    c.get.ensures.value ∙ got uan_key c.args.name.now c.self.inside.entries.entries ∙ ap (λ (t : Names). entry_of c.args.name.now t) c.self.view_is
