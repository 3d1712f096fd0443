use Rattle.std.proofs.Common.{◌≡◌, ◌≤◌, drop, filter_map}
use Rattle.sal_ast.specs.Members.{as_field}
use Rattle.sal_handler.specs.Handler as spec
use Rattle.sal_state.specs.Contexts.{context_of}
use Rattle.sal_walk.proofs.new_fields.exec_initialisers.Given as goal

abbrev pub invariant-loop-member : goal.invariant-loop-member
invariant-loop-member g l = record {
  counted : l.at ≤ l.member-index;
  same : spec.exec_initialisers (filter_map as_field (drop l.member-index l.members)) l.at (context_of (g.A.ActorSupply.supply l.context.actors.now) l.context) l.state ≡ spec.exec_initialisers (filter_map as_field l.fn.members) 0 (context_of (g.A.ActorSupply.supply l.context.actors.now) l.context) l.fn.state;
}
