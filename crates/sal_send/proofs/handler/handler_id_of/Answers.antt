use Rattle.std.proofs.Common.{arith}
use Rattle.std.proofs.lemmas.Grind.{common_steps}
use Rattle.sal_state.specs.Contexts.{context_of}
use Rattle.sal_send.proofs.handler.handler_id_of.Goals as goal

pub returns : goal.returns
returns g c = c.of_message.ensures (context_of (g.A.ActorSupply.supply c.args.context.now.actors.now) c.args.context.now) c.args.state.now (first_of (cc, grind (arith, common_steps)))
