use Rattle.std.proofs.Common.{ap, ◌∙◌}
use Rattle.std.specs.FinMap as fm
use Rattle.sal_value.specs.Order.{key}
use Rattle.sal_value.proofs.Entries.{got}
use Rattle.sal_queues.proofs.queues.Queues.queue.Goals as goal

pub returns : goal.returns
returns g c =
    c.get.ensures.value ∙ got key c.args.name.now c.self.inside.lists.entries ∙ ap (λ t. fm.get t (key c.args.name.now)) c.self.view_is
