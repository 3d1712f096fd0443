use Rattle.std.proofs.Common.{◌≡◌}
use Rattle.sal_node.proofs.Making.{pushed_first}
use Rattle.sal_node.proofs.links.Links.push.Given as goal

abbrev pub invariant-loop-at : goal.invariant-loop-at
invariant-loop-at l = l.self-inside.items.items ≡ pushed_first l.at l.now l.fn.self
