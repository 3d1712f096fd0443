use Rattle.std.proofs.Common.{◌-◌, ◌≤◌, length}
use Rattle.sal_source.specs.Keys.{actor_key}
use Rattle.sal_source.specs.code.Maps.{query_key}
use Rattle.sal_source.proofs.Sorted.{Below, Above}
use Rattle.sal_source.proofs.actors.is_there.Given as goal

abbrev pub invariant-loop-low : goal.invariant-loop-low
invariant-loop-low l = record {
  order : l.low ≤ l.high;
  top : l.high ≤ length l.actors;
  below : Below actor_key (query_key l.sought) l.actors l.low;
  above : Above actor_key (query_key l.sought) l.actors l.high;
}

abbrev pub decreases-loop-low : goal.decreases-loop-low
decreases-loop-low l = l.high - l.low
