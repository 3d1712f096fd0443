use Rattle.std.proofs.Common.{sym}
use Rattle.sal_handler.specs.Calls.{call}
use Rattle.sal_theatre.proofs.Handled.{state_fits, call_fits}
use Rattle.sal_theatre.proofs.handling.outcome_if_fits.Goals as goal

pub handle-requires-clause-state : goal.handle-requires-clause-state
handle-requires-clause-state g c = state_fits (g.R.Runner.meaning c.args.runner.now) (call c.args.turn.now) (sym c.if-not-may_be_called.ensures)

pub handle-requires-clause-call : goal.handle-requires-clause-call
handle-requires-clause-call g c = call_fits (g.R.Runner.meaning c.args.runner.now) (call c.args.turn.now) (sym c.if-not-may_be_called.ensures)
