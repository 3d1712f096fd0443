use Rattle.std.proofs.Common.{◌≡◌, length}
use Rattle.sal_source.specs.Step.{put_actors}
use Rattle.sal_source.specs.code.Maps.{actors_in}
use Rattle.sal_source.proofs.actor_map.add_all.Given as goal

abbrev pub invariant-loop-actor : goal.invariant-loop-actor
invariant-loop-actor l = put_actors l.left (actors_in l.states.entries) ≡ put_actors l.fn.more (actors_in l.fn.states.entries)

abbrev pub decreases-loop-actor : goal.decreases-loop-actor
decreases-loop-actor l = length l.left
