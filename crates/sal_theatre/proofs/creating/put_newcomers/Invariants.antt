use Rattle.std.proofs.Common.{◌≡◌}
use Rattle.sal_desk.specs.code.Desks.{on_desk, on_theatre}
use Rattle.sal_routing.specs.Handling.{put_newcomers}
use Rattle.sal_theatre.proofs.creating.put_newcomers.Given as goal

abbrev pub invariant-loop-actor : goal.invariant-loop-actor
invariant-loop-actor l = l.desk ≡ on_desk (on_theatre (put_newcomers l.yielded)) l.fn.desk
