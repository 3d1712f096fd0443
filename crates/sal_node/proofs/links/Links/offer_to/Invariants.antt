use Rattle.std.proofs.Common.{◌≡◌, drop, take}
use Rattle.sal_node.specs.Links.{offer_to}
use Rattle.sal_node.proofs.Offers.{with_front}
use Rattle.sal_node.proofs.links.Links.offer_to.Given as goal

abbrev pub invariant-loop-at : goal.invariant-loop-at
invariant-loop-at l =
    (l.self-inside.items.items ≡ l.fn.self)
    × (offer_to l.node l.bytes l.fn.self ≡ with_front (take l.at l.fn.self) (offer_to l.node l.bytes (drop l.at l.fn.self)))
