use Rattle.std.proofs.Common.{◌≡◌, true}
use Rattle.sal_node.proofs.Taking.{are_others}
use Rattle.sal_node.proofs.links.Links.take.Given as goal

abbrev pub invariant-loop-at : goal.invariant-loop-at
invariant-loop-at l = (l.self-inside.items.items ≡ l.fn.self) × (are_others l.peer l.at l.fn.self ≡ true)
