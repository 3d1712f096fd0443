use Rattle.std.proofs.Common.{◌≡◌, take}
use Rattle.sal_desk.specs.code.Desks.{on_desk}
use Rattle.sal_routing.specs.Turns.{ask_all}
use Rattle.sal_theatre.proofs.preparing.ask_all.Given as goal

abbrev pub invariant-loop-name : goal.invariant-loop-name
invariant-loop-name l = l.desk ≡ on_desk (ask_all (take l.name-index l.names)) l.fn.desk
