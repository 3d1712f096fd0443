use Rattle.std.proofs.Common.{ap, ◌∙◌}
use Rattle.std.specs.FinMap as fm
use Rattle.sal_value.specs.Order.{key}
use Rattle.sal_queues.proofs.Keys.{word_entries, entries_are}
use Rattle.sal_queues.proofs.queues.Queues.iter.Goals as goal

pub returns-clause-in_order : goal.returns-clause-in_order
returns-clause-in_order g c =
    ap (word_entries key) c.iter.ensures.rest
    ∙ entries_are key c.self.inside.lists.entries c.iter.ensures.ordered
    ∙ ap fm.entries c.self.view_is
