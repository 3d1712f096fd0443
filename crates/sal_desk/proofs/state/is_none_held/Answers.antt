use Rattle.sal_queues.specs.Queues.{filled}
use Rattle.sal_desk.proofs.Readings.{none_of}
use Rattle.sal_desk.proofs.state.is_none_held.Goals as goal

pub returns : goal.returns
returns c = none_of (filled c.args.held.now) c.is_empty.result c.is_empty.ensures
