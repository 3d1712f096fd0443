use Rattle.std.proofs.Common.{◌≡◌}
use Rattle.sal_desk.specs.code.Desks.{on_desk}
use Rattle.sal_routing.specs.Handling.{create_all}
use Rattle.sal_theatre.proofs.creating.create_all.Given as goal

abbrev pub invariant-loop-creation : goal.invariant-loop-creation
invariant-loop-creation l = l.desk ≡ on_desk (create_all l.maker l.yielded) l.fn.desk
