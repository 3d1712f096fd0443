use Rattle.sal_order.proofs.Reaching.{printed_reached}
use Rattle.sal_order.proofs.turn.print.Goals as goal

pub returns : goal.returns
returns c = printed_reached c.args.program.now c.args.setup.now c.args.run c.args.entry.maker c.args.entry.serial (c.in_ok-run.run', c.in_ok-run.is_taken) c.requires c.in_ok-run.ensures
