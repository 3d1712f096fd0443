use Rattle.std.proofs.Common.{arith}
use Rattle.std.proofs.lemmas.Grind.{common_steps}
use Rattle.sal_send.proofs.Serials.{token_step}
use Rattle.sal_send.proofs.after.add_tokens.Goals as goal

pub loop-name-preserved : goal.loop-name-preserved
loop-name-preserved c = grind (arith, common_steps, token_step c.args.names.now c.loop-name.name-index c.name-item.result c.loop-name.serials c.args.state.now c.loop-name-test.true c.name-item.is)
