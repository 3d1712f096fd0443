use Rattle.std.proofs.Common.{◌≡◌}
use Rattle.sal_carriage.specs.Link.{mark_first}
use Rattle.sal_carriage.proofs.fragment.Fragments.mark_first.Given as goal

abbrev pub invariant-loop-at : goal.invariant-loop-at
invariant-loop-at l = l.self-inside.items.items ≡ mark_first l.at l.now l.fn.self
