use Rattle.std.proofs.Common.{◌≡◌, ◌++◌, map}
use Rattle.sal_source.specs.code.Maps.{actor_of}
use Rattle.sal_source.proofs.actor_map.into_actors.Given as goal

abbrev pub invariant-loop-name : goal.invariant-loop-name
invariant-loop-name l = l.items ++ map actor_of l.name-iterator ≡ map actor_of l.fn.states.entries
