use Rattle.std.proofs.Common.{ap, ◌∙◌}
use Rattle.std.specs.FinMap as fm
use Rattle.sal_value.specs.Order.{key}
use Rattle.sal_queues.proofs.Keys.{entries_are}
use Rattle.sal_queues.proofs.Laws.{any_words, whether_none}
use Rattle.sal_queues.proofs.queues.Queues.is_empty.Goals as goal

pub returns : goal.returns
returns g c =
    let lists = c.self.inside.lists.entries in
    whether_none c.has_items.result c.args.self.now (
    c.has_items.ensures.value
    ∙ any_words key lists c.args.self.now (entries_are key lists c.has_items.ensures.ordered ∙ ap fm.entries c.self.view_is)
    )
