use Rattle.std.proofs.Common.{◌≡◌, [], drop}
use Rattle.sal_handler.specs.Messages as spec
use Rattle.sal_state.specs.Contexts.{context_of}
use Rattle.sal_send.proofs.arguments.eval_args.Given as goal

abbrev pub invariant-loop-arg : goal.invariant-loop-arg
invariant-loop-arg g l = spec.eval_args (drop l.arg-index l.args) (context_of (g.A.ActorSupply.supply l.context.actors.now) l.context) l.before l.pieces l.state ≡ spec.eval_args l.fn.args (context_of (g.A.ActorSupply.supply l.context.actors.now) l.context) l.before [] l.fn.state
