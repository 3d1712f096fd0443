use Rattle.std.proofs.Common.{◌+◌, ◌-◌, ◌≡◌, length, arith}
use Rattle.std.proofs.lemmas.Grind.{common_steps}
use Rattle.sal_handler.specs.Scopes.{in_new_scope}
use Rattle.sal_handler.specs.Statements as spec
use Rattle.sal_state.specs.Contexts.{context_of}
use Rattle.sal_walk.proofs.Steps.{turn_step, no_turn, chain_step}
use Rattle.sal_walk.proofs.statements.+exec.Goals as goal

pub while_loop-returns-in_err-eval_test : goal.while_loop-returns-in_err-eval_test
while_loop-returns-in_err-eval_test g t c = grind (arith, common_steps, turn_step 100001 c.loop-turn._turn (spec.eval_test c.args.test.now (context_of (g.A.ActorSupply.supply c.args.context.now.actors.now) c.args.context.now)) (in_new_scope (spec.exec c.args.body.now (context_of (g.A.ActorSupply.supply c.args.context.now.actors.now) c.args.context.now))) c.loop-turn.state (omega arith))

pub while_loop-returns-then-not-branch : goal.while_loop-returns-then-not-branch
while_loop-returns-then-not-branch g t c = grind (arith, common_steps, turn_step 100001 c.loop-turn._turn (spec.eval_test c.args.test.now (context_of (g.A.ActorSupply.supply c.args.context.now.actors.now) c.args.context.now)) (in_new_scope (spec.exec c.args.body.now (context_of (g.A.ActorSupply.supply c.args.context.now.actors.now) c.args.context.now))) c.loop-turn.state (omega arith))

pub while_loop-returns-in_err-begin_turn : goal.while_loop-returns-in_err-begin_turn
while_loop-returns-in_err-begin_turn g t c = grind (arith, common_steps, turn_step 100001 c.loop-turn._turn (spec.eval_test c.args.test.now (context_of (g.A.ActorSupply.supply c.args.context.now.actors.now) c.args.context.now)) (in_new_scope (spec.exec c.args.body.now (context_of (g.A.ActorSupply.supply c.args.context.now.actors.now) c.args.context.now))) c.loop-turn.state (omega arith))

pub while_loop-returns-in_err-flow : goal.while_loop-returns-in_err-flow
while_loop-returns-in_err-flow g t c = grind (arith, common_steps, turn_step 100001 c.loop-turn._turn (spec.eval_test c.args.test.now (context_of (g.A.ActorSupply.supply c.args.context.now.actors.now) c.args.context.now)) (in_new_scope (spec.exec c.args.body.now (context_of (g.A.ActorSupply.supply c.args.context.now.actors.now) c.args.context.now))) c.loop-turn.state (omega arith))

pub while_loop-loop-turn-preserved : goal.while_loop-loop-turn-preserved
while_loop-loop-turn-preserved g t c = grind (arith, common_steps, turn_step 100001 c.loop-turn._turn (spec.eval_test c.args.test.now (context_of (g.A.ActorSupply.supply c.args.context.now.actors.now) c.args.context.now)) (in_new_scope (spec.exec c.args.body.now (context_of (g.A.ActorSupply.supply c.args.context.now.actors.now) c.args.context.now))) c.loop-turn.state (omega arith))

pub while_loop-returns-in_default : goal.while_loop-returns-in_default
while_loop-returns-in_default g t c = grind (arith, common_steps, turn_step 100001 c.loop-turn._turn (spec.eval_test c.args.test.now (context_of (g.A.ActorSupply.supply c.args.context.now.actors.now) c.args.context.now)) (in_new_scope (spec.exec c.args.body.now (context_of (g.A.ActorSupply.supply c.args.context.now.actors.now) c.args.context.now))) c.loop-turn.state (omega arith))

pub while_loop-returns : goal.while_loop-returns
while_loop-returns g t c = grind (arith, common_steps, no_turn 100001 c.loop-turn._turn (spec.eval_test c.args.test.now (context_of (g.A.ActorSupply.supply c.args.context.now.actors.now) c.args.context.now)) (in_new_scope (spec.exec c.args.body.now (context_of (g.A.ActorSupply.supply c.args.context.now.actors.now) c.args.context.now))) c.loop-turn.state (omega arith))

pub for_turns-returns-in_err-eval_for_test : goal.for_turns-returns-in_err-eval_for_test
for_turns-returns-in_err-eval_for_test g t c = grind (arith, common_steps, turn_step 100001 c.loop-turn._turn (spec.eval_for_test c.args.test.now (context_of (g.A.ActorSupply.supply c.args.context.now.actors.now) c.args.context.now)) (spec.for_turn (spec.exec c.args.body.now (context_of (g.A.ActorSupply.supply c.args.context.now.actors.now) c.args.context.now)) (spec.exec_for_next c.args.next.now (context_of (g.A.ActorSupply.supply c.args.context.now.actors.now) c.args.context.now))) c.loop-turn.state (omega arith))

pub for_turns-returns-then-not-branch : goal.for_turns-returns-then-not-branch
for_turns-returns-then-not-branch g t c = grind (arith, common_steps, turn_step 100001 c.loop-turn._turn (spec.eval_for_test c.args.test.now (context_of (g.A.ActorSupply.supply c.args.context.now.actors.now) c.args.context.now)) (spec.for_turn (spec.exec c.args.body.now (context_of (g.A.ActorSupply.supply c.args.context.now.actors.now) c.args.context.now)) (spec.exec_for_next c.args.next.now (context_of (g.A.ActorSupply.supply c.args.context.now.actors.now) c.args.context.now))) c.loop-turn.state (omega arith))

pub for_turns-returns-in_err-begin_turn : goal.for_turns-returns-in_err-begin_turn
for_turns-returns-in_err-begin_turn g t c = grind (arith, common_steps, turn_step 100001 c.loop-turn._turn (spec.eval_for_test c.args.test.now (context_of (g.A.ActorSupply.supply c.args.context.now.actors.now) c.args.context.now)) (spec.for_turn (spec.exec c.args.body.now (context_of (g.A.ActorSupply.supply c.args.context.now.actors.now) c.args.context.now)) (spec.exec_for_next c.args.next.now (context_of (g.A.ActorSupply.supply c.args.context.now.actors.now) c.args.context.now))) c.loop-turn.state (omega arith))

pub for_turns-returns-in_err-flow : goal.for_turns-returns-in_err-flow
for_turns-returns-in_err-flow g t c = grind (arith, common_steps, turn_step 100001 c.loop-turn._turn (spec.eval_for_test c.args.test.now (context_of (g.A.ActorSupply.supply c.args.context.now.actors.now) c.args.context.now)) (spec.for_turn (spec.exec c.args.body.now (context_of (g.A.ActorSupply.supply c.args.context.now.actors.now) c.args.context.now)) (spec.exec_for_next c.args.next.now (context_of (g.A.ActorSupply.supply c.args.context.now.actors.now) c.args.context.now))) c.loop-turn.state (omega arith))

pub for_turns-loop-turn-preserved : goal.for_turns-loop-turn-preserved
for_turns-loop-turn-preserved g t c = grind (arith, common_steps, turn_step 100001 c.loop-turn._turn (spec.eval_for_test c.args.test.now (context_of (g.A.ActorSupply.supply c.args.context.now.actors.now) c.args.context.now)) (spec.for_turn (spec.exec c.args.body.now (context_of (g.A.ActorSupply.supply c.args.context.now.actors.now) c.args.context.now)) (spec.exec_for_next c.args.next.now (context_of (g.A.ActorSupply.supply c.args.context.now.actors.now) c.args.context.now))) c.loop-turn.state (omega arith))

pub for_turns-returns-in_default : goal.for_turns-returns-in_default
for_turns-returns-in_default g t c = grind (arith, common_steps, turn_step 100001 c.loop-turn._turn (spec.eval_for_test c.args.test.now (context_of (g.A.ActorSupply.supply c.args.context.now.actors.now) c.args.context.now)) (spec.for_turn (spec.exec c.args.body.now (context_of (g.A.ActorSupply.supply c.args.context.now.actors.now) c.args.context.now)) (spec.exec_for_next c.args.next.now (context_of (g.A.ActorSupply.supply c.args.context.now.actors.now) c.args.context.now))) c.loop-turn.state (omega arith))

pub for_turns-returns : goal.for_turns-returns
for_turns-returns g t c = grind (arith, common_steps, no_turn 100001 c.loop-turn._turn (spec.eval_for_test c.args.test.now (context_of (g.A.ActorSupply.supply c.args.context.now.actors.now) c.args.context.now)) (spec.for_turn (spec.exec c.args.body.now (context_of (g.A.ActorSupply.supply c.args.context.now.actors.now) c.args.context.now)) (spec.exec_for_next c.args.next.now (context_of (g.A.ActorSupply.supply c.args.context.now.actors.now) c.args.context.now))) c.loop-turn.state (omega arith))

pub chain-returns-in_err-exec_stage : goal.chain-returns-in_err-exec_stage
chain-returns-in_err-exec_stage g t c =
    let k : (c.loop-stage.left - 1) + (c.loop-stage.stage-index + 1) ≡ length c.args.stages.now = omega arith in
    grind (arith, common_steps, k, chain_step c.args.stages.now c.loop-stage.stage-index (c.loop-stage.left - 1) c.stage-item.result (context_of (g.A.ActorSupply.supply c.args.context.now.actors.now) c.args.context.now) c.loop-stage.before c.args.end c.loop-stage.state c.loop-stage-test.true c.stage-item.is k)

pub chain-loop-stage-preserved : goal.chain-loop-stage-preserved
chain-loop-stage-preserved g t c =
    let k : (c.loop-stage.left - 1) + (c.loop-stage.stage-index + 1) ≡ length c.args.stages.now = omega arith in
    grind (arith, common_steps, k, chain_step c.args.stages.now c.loop-stage.stage-index (c.loop-stage.left - 1) c.stage-item.result (context_of (g.A.ActorSupply.supply c.args.context.now.actors.now) c.args.context.now) c.loop-stage.before c.args.end c.loop-stage.state c.loop-stage-test.true c.stage-item.is k)
