-- A handler makes at most 1,024 actors.
use Rattle.std.proofs.Common.{◌≡◌, ◌≤◌, Some, Ok, length, slice_get, false, refl, ap, arith}
use Rattle.std.specs.Prelude.{nat_eq, nat_lt}
use Rattle.sal_ast.specs.declared.program.Program.{Program}
use Rattle.sal_ast.specs.declared.program.Behavior.{Behavior}
use Rattle.sal_ast.specs.Members.{Handler, handlers_of}
use Rattle.sal_mail.specs.declared.constants.TheConstants.{MIGRATE}
use Rattle.sal_handler.specs.declared.constants.TheConstants.{LAST_SERIAL}
use Rattle.sal_handler.specs.declared.state.Flow.{Flow}
use Rattle.sal_handler.specs.declared.state.State.{State}
use Rattle.sal_handler.specs.Calls.{Call}
use Rattle.sal_handler.specs.Statements.{exec_block}
use Rattle.sal_handler.specs.Handler.{handle, handler_context, initial_state, parameters, effects_of, outcome_of, run_if_numbers_left}
use Rattle.sal_handler.specs.Limits.{MakesFew}
use Rattle.sal_handler.proofs.Turns.{handlers_few}

done : (p : Program) (c : Call) (b : Behavior) (h : Handler) (f : Flow) (s : State) → nat_lt LAST_SERIAL c.serial ≡ false → nat_eq c.handler MIGRATE ≡ false → slice_get p.behaviors c.behavior ≡ Some b → slice_get (handlers_of b) c.handler ≡ Some h → exec_block h.body (handler_context p c) (initial_state (parameters p.behaviors h.params c.args) c.fields c.serial) ≡ Ok (f, s) → run_if_numbers_left p c ≡ Ok (effects_of f s c.fresh)
done p c b h f s low plain at own ran = rw (low, plain, at, own, ran) refl

pub few_actors : (p : Program) (c : Call) (b : Behavior) (h : Handler) (f : Flow) (s : State) → nat_lt LAST_SERIAL c.serial ≡ false → nat_eq c.handler MIGRATE ≡ false → slice_get p.behaviors c.behavior ≡ Some b → slice_get (handlers_of b) c.handler ≡ Some h → exec_block h.body (handler_context p c) (initial_state (parameters p.behaviors h.params c.args) c.fields c.serial) ≡ Ok (f, s) → length s.actors ≤ 1024
unfolding handle
few_actors p c b h f s low plain at own ran =
    let m : MakesFew c (effects_of f s c.fresh) = handlers_few p c (effects_of f s c.fresh) (ap outcome_of (done p c b h f s low plain at own ran)) in
    omega (arith, m.few.2)
