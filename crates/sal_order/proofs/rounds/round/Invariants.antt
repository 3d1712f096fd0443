use Rattle.sal_order.specs.Runs.{IsReached}
use Rattle.sal_order.proofs.rounds.round.Given as goal

abbrev pub invariant-loop-turn : goal.invariant-loop-turn
invariant-loop-turn l = IsReached l.program l.setup l.run
