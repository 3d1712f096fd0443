use Rattle.std.proofs.Common.{◌≡◌, ◌++◌}
use Rattle.sal_node.specs.Links.{links_to, numbers_from}
use Rattle.sal_node.proofs.Making.{links_left}
use Rattle.sal_node.proofs.links.push_links.Given as goal

abbrev pub invariant-loop-at : goal.invariant-loop-at
invariant-loop-at l = l.links.items ++ links_left l.program l.me l.first l.count l.at ≡ l.fn.links.items ++ links_to l.program l.me (numbers_from l.first l.count)
