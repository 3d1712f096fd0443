use Rattle.std.proofs.Common.{◌≡◌, ◌≤◌, Ok, false, length, arith}
use Rattle.std.specs.Prelude.{nat_eq, nat_lt}
use Rattle.std.proofs.lemmas.Grind.{common_steps}
use Rattle.sal_mail.specs.declared.constants.TheConstants.{MIGRATE}
use Rattle.sal_handler.specs.declared.constants.TheConstants.{LAST_SERIAL}
use Rattle.sal_handler.specs.Statements.{exec_block}
use Rattle.sal_handler.specs.Handler.{handler_context, initial_state, parameters}
use Rattle.sal_walk.specs.Naming.{call_with}
use Rattle.sal_walk.specs.code.HandlerTrees.{handler_in}
use Rattle.sal_walk.proofs.Few.{few_actors}
use Rattle.sal_walk.proofs.handlers.run_handler.Goals as goal

pub effects_of-requires : goal.effects_of-requires
effects_of-requires g c =
    let low : nat_lt LAST_SERIAL c.args.turn.now.serial ≡ false = grind (arith, common_steps) in
    let plain : nat_eq c.args.turn.now.handler MIGRATE ≡ false = grind (arith, common_steps) in
    let ran : exec_block (handler_in c.args.handler).body (handler_context c.args.program.now (call_with (g.N.FreshNames.names c.args.names.now) c.args.turn.now)) (initial_state (parameters c.args.program.now.behaviors (handler_in c.args.handler).params (call_with (g.N.FreshNames.names c.args.names.now) c.args.turn.now).args) (call_with (g.N.FreshNames.names c.args.names.now) c.args.turn.now).fields c.args.turn.now.serial) ≡ Ok (c.in_ok-flow.flow, c.exec_block.new.state) = first_of (cc, grind (arith, common_steps)) in
    let few : length c.exec_block.new.state.actors ≤ 1024 = few_actors c.args.program.now (call_with (g.N.FreshNames.names c.args.names.now) c.args.turn.now) c.args.behavior.now (handler_in c.args.handler) c.in_ok-flow.flow c.exec_block.new.state low plain c.requires.behavior c.requires.handler ran in
    omega arith
