use Rattle.std.proofs.Common.{ap}
use Rattle.sal_entries.specs.Entries.{values}
use Rattle.sal_entries.proofs.Laws.{overlaid-none}
use Rattle.sal_lists.specs.code.Settling.{settling}
use Rattle.sal_lists.proofs.settling.Settling.new.Goals as goal

pub returns : goal.returns
returns c =
    let before = values c.args.before.now in
    ap (settling before) (overlaid-none c.new.result before c.new.ensures)
