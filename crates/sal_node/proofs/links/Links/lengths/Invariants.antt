use Rattle.std.proofs.Common.{◌≡◌, ◌++◌, drop}
use Rattle.sal_node.specs.code.Withdrawing.{lengths_of}
use Rattle.sal_node.proofs.links.Links.lengths.Given as goal

abbrev pub invariant-loop-link : goal.invariant-loop-link
invariant-loop-link l = l.lengths.items ++ lengths_of (drop l.link-index l.link-items) ≡ lengths_of l.link-items
