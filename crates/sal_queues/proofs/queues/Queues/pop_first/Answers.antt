use Rattle.sal_value.specs.Order.{key}
use Rattle.sal_queues.proofs.Keys.{pops}
use Rattle.sal_queues.proofs.queues.Queues.pop_first.Goals as goal

pub returns-clause-first : goal.returns-clause-first
returns-clause-first g c =
    pops key c.pop_first.result c.self.inside.lists.entries c.pop_first.new.self.entries c.args.self.now
    c.pop_first.ensures.removal c.pop_first.ensures.all_above c.pop_first.ensures.ordered c.self.view_is
