use Rattle.std.proofs.Common.{◌≡◌, None, drop}
use Rattle.sal_handler.specs.Messages as spec
use Rattle.sal_state.specs.Contexts.{context_of}
use Rattle.sal_send.proofs.target.eval_delay.Given as goal

abbrev pub invariant-loop-property : goal.invariant-loop-property
invariant-loop-property g l = spec.eval_delay (drop l.property-index l.properties) l.last (context_of (g.A.ActorSupply.supply l.context.actors.now) l.context) l.state ≡ spec.eval_delay l.fn.properties None (context_of (g.A.ActorSupply.supply l.context.actors.now) l.context) l.fn.state
