use Rattle.std.proofs.Common.{◌≡◌, take}
use Rattle.sal_node.specs.code.Withdrawing.{withdraw_all}
use Rattle.sal_node.proofs.links.Links.withdraw_all.Given as goal

abbrev pub invariant-loop-at : goal.invariant-loop-at
invariant-loop-at l = l.self-inside.items.items ≡ withdraw_all (take l.at l.counts) l.fn.self
