use Rattle.std.proofs.Common.{◌≡◌, [], drop, map}
use Rattle.sal_state.specs.Contexts.{context_of}
use Rattle.sal_handler.specs.Expressions as spec
use Rattle.sal_evaluate.specs.code.Places.{place_value}
use Rattle.sal_evaluate.proofs.expressions.+evaluate.Given as goal

abbrev pub invariant-evaluate_all-loop-e : goal.invariant-evaluate_all-loop-e
invariant-evaluate_all-loop-e g l =
    spec.eval_all (spec.evals (drop l.e-index l.list)) (context_of (g.A.ActorSupply.supply l.context.actors.now) l.context) l.values l.state
    ≡ spec.eval_all (spec.evals l.list) (context_of (g.A.ActorSupply.supply l.context.actors.now) l.context) [] l.fn.state

abbrev pub invariant-apply_operators-loop-operand : goal.invariant-apply_operators-loop-operand
invariant-apply_operators-loop-operand g l =
    spec.apply_operators l.value (map spec.operand (drop l.operand-index l.rest)) (context_of (g.A.ActorSupply.supply l.context.actors.now) l.context) l.state
    ≡ spec.apply_operators l.fn.first (map spec.operand l.rest) (context_of (g.A.ActorSupply.supply l.context.actors.now) l.context) l.fn.state

abbrev pub invariant-apply_suffixes-loop-suffix : goal.invariant-apply_suffixes-loop-suffix
invariant-apply_suffixes-loop-suffix g l =
    spec.apply_suffixes l.value (map spec.suffix (drop l.suffix-index l.rest)) (context_of (g.A.ActorSupply.supply l.context.actors.now) l.context) l.state
    ≡ spec.apply_suffixes l.fn.first (map spec.suffix l.rest) (context_of (g.A.ActorSupply.supply l.context.actors.now) l.context) l.fn.state

abbrev pub invariant-suffixes_of_place-loop-next : goal.invariant-suffixes_of_place-loop-next
invariant-suffixes_of_place-loop-next g l =
    spec.apply_suffixes l.value (map spec.suffix (drop l.next-index l.more)) (context_of (g.A.ActorSupply.supply l.context.actors.now) l.context) l.state
    ≡ spec.apply_suffixes (place_value l.fn.own l.fn.name.text (context_of (g.A.ActorSupply.supply l.context.actors.now) l.context) l.fn.state) (map spec.suffix l.fn.rest) (context_of (g.A.ActorSupply.supply l.context.actors.now) l.context) l.fn.state
