use Rattle.std.proofs.Common.{◌≡◌, ◌++◌, take}
use Rattle.sal_desk.specs.code.Desks.{on_desk}
use Rattle.sal_routing.specs.Handling.{made_here}
use Rattle.sal_theatre.proofs.handling.tell_made.Given as goal

abbrev pub invariant-loop-actor : goal.invariant-loop-actor
invariant-loop-actor l = l.desk ≡ on_desk (λ d. record d { told = record d.told { made = d.told.made ++ made_here d.theatre.me (take l.actor-index l.actors) } }) l.fn.desk
