use Rattle.sal_fitting.proofs.Migrating.{migrate_typed}
use Rattle.sal_fitting.proofs.law.migrate_keeps_types.Goals as goal

pub returns : goal.returns
returns c = migrate_typed
