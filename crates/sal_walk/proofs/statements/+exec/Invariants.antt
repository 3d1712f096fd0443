use Rattle.std.proofs.Common.{◌≡◌, ◌+◌, ◌-◌, drop, map, length, None}
use Rattle.sal_handler.specs.Scopes.{in_new_scope}
use Rattle.sal_handler.specs.Statements as spec
use Rattle.sal_state.specs.Contexts.{context_of}
use Rattle.sal_walk.proofs.statements.+exec.Given as goal

abbrev pub invariant-sequence-loop-stmt : goal.invariant-sequence-loop-stmt
invariant-sequence-loop-stmt g l = spec.sequence (map spec.exec (drop l.stmt-index l.body)) (context_of (g.A.ActorSupply.supply l.context.actors.now) l.context) l.state ≡ spec.sequence (map spec.exec l.fn.body) (context_of (g.A.ActorSupply.supply l.context.actors.now) l.context) l.fn.state

abbrev pub invariant-while_loop-loop-turn : goal.invariant-while_loop-loop-turn
invariant-while_loop-loop-turn g l = spec.bounded_loop (100001 - l._turn) (spec.eval_test l.test (context_of (g.A.ActorSupply.supply l.context.actors.now) l.context)) (in_new_scope (spec.exec l.body (context_of (g.A.ActorSupply.supply l.context.actors.now) l.context))) l.state ≡ spec.bounded_loop 100001 (spec.eval_test l.test (context_of (g.A.ActorSupply.supply l.context.actors.now) l.context)) (in_new_scope (spec.exec l.body (context_of (g.A.ActorSupply.supply l.context.actors.now) l.context))) l.fn.state

abbrev pub invariant-for_turns-loop-turn : goal.invariant-for_turns-loop-turn
invariant-for_turns-loop-turn g l = spec.bounded_loop (100001 - l._turn) (spec.eval_for_test l.test (context_of (g.A.ActorSupply.supply l.context.actors.now) l.context)) (spec.for_turn (spec.exec l.body (context_of (g.A.ActorSupply.supply l.context.actors.now) l.context)) (spec.exec_for_next l.next (context_of (g.A.ActorSupply.supply l.context.actors.now) l.context))) l.state ≡ spec.bounded_loop 100001 (spec.eval_for_test l.test (context_of (g.A.ActorSupply.supply l.context.actors.now) l.context)) (spec.for_turn (spec.exec l.body (context_of (g.A.ActorSupply.supply l.context.actors.now) l.context)) (spec.exec_for_next l.next (context_of (g.A.ActorSupply.supply l.context.actors.now) l.context))) l.fn.state

abbrev pub invariant-chain-loop-stage : goal.invariant-chain-loop-stage
invariant-chain-loop-stage g l = record {
  counted : l.left + l.stage-index ≡ length l.stages;
  same : spec.chain (map spec.exec_stage (drop l.stage-index l.stages)) (context_of (g.A.ActorSupply.supply l.context.actors.now) l.context) l.before l.end l.state ≡ spec.chain (map spec.exec_stage l.fn.stages) (context_of (g.A.ActorSupply.supply l.context.actors.now) l.context) None l.end l.fn.state;
}
