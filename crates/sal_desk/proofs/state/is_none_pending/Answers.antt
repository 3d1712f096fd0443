use Rattle.sal_entries.specs.Entries.{values}
use Rattle.sal_desk.proofs.Readings.{none_of}
use Rattle.sal_desk.proofs.state.is_none_pending.Goals as goal

pub returns : goal.returns
returns c = none_of (values c.args.pending.now) c.is_empty.result c.is_empty.ensures
