use Rattle.std.proofs.Common.{ap}
use Rattle.sal_source.specs.Keys.{made_key}
use Rattle.sal_lists.specs.code.Settling.{waiting_on}
use Rattle.sal_lists.proofs.Joins.{none_filled}
use Rattle.sal_lists.proofs.settling.Settling.fill.Goals as goal

pub returns-in_default-clause-waiting : goal.returns-in_default-clause-waiting
returns-in_default-clause-waiting c =
    ap waiting_on (none_filled c.args.self.now.joins (made_key c.args.maker c.args.number) c.args.at c.args.value c.in_default.ensures)
