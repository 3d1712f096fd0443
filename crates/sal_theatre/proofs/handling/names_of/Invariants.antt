use Rattle.std.proofs.Common.{◌≡◌, take}
use Rattle.sal_routing.specs.Handling.{names_of}
use Rattle.sal_theatre.proofs.handling.names_of.Given as goal

abbrev pub invariant-loop-actor : goal.invariant-loop-actor
invariant-loop-actor l = l.names ≡ names_of (take l.actor-index l.actors)
