use Rattle.std.proofs.Common.{◌≡◌, true}
use Rattle.sal_node.specs.Links.{has_few_nodes}
use Rattle.sal_desk.specs.code.Desks.{on_desk}
use Rattle.sal_routing.specs.Routing as routing
use Rattle.sal_theatre.proofs.routing.route.Given as goal

abbrev pub invariant-loop-item : goal.invariant-loop-item
invariant-loop-item g l = record {
  few : has_few_nodes l.desk.desk.theatre.plan ≡ true;
  routed : on_desk (routing.route (g.R.Runner.meaning l.runner)) l.desk ≡ on_desk (routing.route (g.R.Runner.meaning l.runner)) l.fn.desk;
}

abbrev pub decreases-loop-item : goal.decreases-loop-item
decreases-loop-item g l = routing.items_left l.desk.desk
