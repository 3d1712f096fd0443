use Rattle.sal_handler.proofs.Turns.{loops_stop}
use Rattle.sal_handler.proofs.law.loops_stop_themselves.Goals as goal

pub returns : goal.returns
returns c = loops_stop
