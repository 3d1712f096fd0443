use Rattle.std.proofs.Common.{◌≡◌, ◌++◌, take}
use Rattle.sal_desk.specs.code.Desks.{on_desk}
use Rattle.sal_routing.specs.Handling.{opened_by}
use Rattle.sal_theatre.proofs.handling.tell_opened.Given as goal

abbrev pub invariant-loop-join : goal.invariant-loop-join
invariant-loop-join l = l.desk ≡ on_desk (λ d. record d { told = record d.told { opened = d.told.opened ++ opened_by l.owner (take l.join-index l.joins) } }) l.fn.desk
