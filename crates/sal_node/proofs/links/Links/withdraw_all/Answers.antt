use Rattle.std.proofs.Common.{◌<◌, take, length, ap, ◌∙◌, rules, arith}
use Rattle.std.specs.Prelude.{slice_set}
use Rattle.sal_node.proofs.Withdrawing.{nothing_withdrawn, in_range, withdraws_one, withdraws_all}
use Rattle.sal_node.proofs.links.Links.withdraw_all.Goals as goal

pub loop-at-init : goal.loop-at-init
loop-at-init c = c.self.view_is ∙ nothing_withdrawn c.args.self.now

pub index_mut-requires : goal.index_mut-requires
index_mut-requires c =
    let within : c.loop-at.at < length c.loop-at.self-inside.items.items =
    in_range c.loop-at.at c.args.counts.now c.args.self.now c.loop-at.self-inside.items.items c.loop-at.invariant c.requires (search (rules, arith)) in
    search (rules, arith, within)

pub loop-at-preserved : goal.loop-at-preserved
loop-at-preserved c =
    ap (λ ls. slice_set ls c.loop-at.at c.withdraw.new.self) c.loop-at.invariant
    ∙ withdraws_one c.loop-at.at c.args.counts.now c.args.self.now _ c.index_mut.result.now c.withdraw.new.self (search (rules, arith)) (search (rules, arith)) (search (rules, arith)) (search (rules, arith)) c.withdraw.ensures

pub returns : goal.returns
returns c = withdraws_all c.loop-at.at c.args.counts.now c.args.self.now c.loop-at.self-inside.items.items (search (rules, arith)) c.loop-at.invariant
