use Rattle.std.proofs.Common.{◌≡◌, refl, ap, ◌∙◌, rules, arith}
use Rattle.sal_node.proofs.Withdrawing.{same_extend, next_offered, offer_fails, each_offered}
use Rattle.sal_node.proofs.links.Links.offer_each.Goals as goal

pub loop-parcel-init : goal.loop-parcel-init
loop-parcel-init c = (refl, same_extend c.args.self.now)

pub loop-parcel-preserved : goal.loop-parcel-preserved
loop-parcel-preserved c =
    next_offered c.loop-parcel.parcel-index c.args.parcels.now c.parcel-item.result c.args.self.now c.loop-parcel.self c.offer_to.new.self (search (rules, arith)) (search (rules, arith))
    c.loop-parcel.invariant.0 c.loop-parcel.invariant.1 (search rules)

pub returns-in-Err : goal.returns-in-Err
returns-in-Err c =
    offer_fails c.loop-parcel.parcel-index c.args.parcels.now c.parcel-item.result c.args.self.now c.loop-parcel.self c.offer_to.new.self c.in-Err.fault (search (rules, arith)) (search (rules, arith))
    c.loop-parcel.invariant.0 c.loop-parcel.invariant.1 (search rules)

pub returns : goal.returns
returns c = each_offered c.args.parcels.now c.args.self.now c.loop-parcel.self c.loop-parcel.parcel-index (search (rules, arith)) c.loop-parcel.invariant.0
