use Rattle.std.proofs.Common.{None, ap, ◌∙◌}
use Rattle.sal_value.specs.Order.{uan_key}
use Rattle.sal_value.specs.Table.{write}
use Rattle.sal_naming.specs.Table.{Names}
use Rattle.sal_naming.proofs.Removing.{removed}
use Rattle.sal_naming.proofs.names.Names.forget.Goals as goal

pub returns : goal.returns
returns c =
    removed uan_key c.args.name.now c.self.inside.entries.entries c.remove.new.self.entries c.remove.ensures.entries c.remove.ensures.updates.1
    ∙ ap (λ (t : Names). write t (uan_key c.args.name.now) None) c.self.view_is
