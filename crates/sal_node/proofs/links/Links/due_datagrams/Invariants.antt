use Rattle.std.proofs.Common.{◌≡◌, ◌++◌, drop}
use Rattle.sal_node.specs.Links.{due_on}
use Rattle.sal_node.proofs.links.Links.due_datagrams.Given as goal

abbrev pub invariant-loop-link : goal.invariant-loop-link
invariant-loop-link l = l.datagrams ++ due_on l.now (drop l.link-index l.link-items) ≡ due_on l.now l.link-items
