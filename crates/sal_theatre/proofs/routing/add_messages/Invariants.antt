use Rattle.std.proofs.Common.{◌≡◌, map}
use Rattle.sal_desk.specs.code.Desks.{on_desk}
use Rattle.sal_routing.specs.State.{with_work}
use Rattle.sal_routing.specs.Routing.{call_made}
use Rattle.sal_theatre.proofs.routing.add_messages.Given as goal

abbrev pub invariant-loop-message : goal.invariant-loop-message
invariant-loop-message l = l.desk ≡ on_desk (with_work (map call_made l.yielded)) l.fn.desk
