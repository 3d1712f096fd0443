use Rattle.sal_theatre.proofs.Asking.{next}
use Rattle.sal_theatre.proofs.preparing.ask_all.Goals as goal

pub loop-name-preserved : goal.loop-name-preserved
loop-name-preserved c =
    next c.args.names.now c.loop-name.name-index c.name-item.result c.args.desk.now c.loop-name.desk c.ask_again.new.desk c.loop-name-test.true c.name-item.is c.loop-name.invariant c.in_ok-ask_again.ensures
