use Rattle.std.proofs.Common.{◌≡◌, drop}
use Rattle.sal_node.specs.Links.{offer_all}
use Rattle.sal_node.specs.code.Withdrawing.{Extend}
use Rattle.sal_node.proofs.links.Links.offer_each.Given as goal

abbrev pub invariant-loop-parcel : goal.invariant-loop-parcel
invariant-loop-parcel l =
    (offer_all (drop l.parcel-index l.parcels) l.self ≡ offer_all l.parcels l.fn.self)
    × Extend l.fn.self l.self
