use Rattle.sal_order.specs.Runs.{IsReached}
use Rattle.sal_order.proofs.rounds.take_rounds.Given as goal

abbrev pub invariant-loop-round : goal.invariant-loop-round
invariant-loop-round l = IsReached l.program l.setup l.run
