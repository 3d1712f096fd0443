use Rattle.std.proofs.Common.{◌≡◌, map}
use Rattle.sal_desk.specs.code.Desks.{on_desk}
use Rattle.sal_routing.specs.State.{with_work}
use Rattle.sal_routing.specs.Routing.{answer_made}
use Rattle.sal_theatre.proofs.routing.add_replies.Given as goal

abbrev pub invariant-loop-reply : goal.invariant-loop-reply
invariant-loop-reply l = l.desk ≡ on_desk (with_work (map answer_made l.yielded)) l.fn.desk
