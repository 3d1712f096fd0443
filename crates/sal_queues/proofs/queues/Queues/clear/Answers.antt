use Rattle.std.proofs.Common.{None, ap, ◌∙◌}
use Rattle.sal_value.specs.Order.{key}
use Rattle.sal_value.specs.Table.{write}
use Rattle.sal_queues.specs.Queues.{filled}
use Rattle.sal_queues.proofs.Keys.{removed}
use Rattle.sal_queues.proofs.Laws.{filled-write}
use Rattle.sal_queues.proofs.queues.Queues.clear.Goals as goal

pub returns-clause-lists : goal.returns-clause-lists
returns-clause-lists g c =
    removed key c.args.name.now c.self.inside.lists.entries c.remove.new.self.entries c.remove.ensures.entries c.remove.ensures.updates.1
    ∙ ap (λ t. write t (key c.args.name.now) None) c.self.view_is

pub returns-clause-queues : goal.returns-clause-queues
returns-clause-queues g c =
    ap filled (
    removed key c.args.name.now c.self.inside.lists.entries c.remove.new.self.entries c.remove.ensures.entries c.remove.ensures.updates.1
    ∙ ap (λ t. write t (key c.args.name.now) None) c.self.view_is
    )
    ∙ filled-write c.args.self.now (key c.args.name.now) None
