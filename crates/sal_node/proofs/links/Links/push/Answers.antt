use Rattle.std.proofs.Common.{ap, ◌∙◌, rules, arith, set}
use Rattle.sal_node.proofs.Making.{pushes_one, pushes_all}
use Rattle.sal_node.proofs.links.Links.push.Goals as goal

pub loop-at-preserved : goal.loop-at-preserved
loop-at-preserved c =
    ap (λ ls. set ls c.loop-at.at c.push.new.self) c.loop-at.invariant
    ∙ pushes_one c.loop-at.at c.args.now c.args.self.now c.index_mut.result.now c.push.new.self (search (rules, arith)) (search (rules, arith)) c.push.ensures

pub returns : goal.returns
returns c = pushes_all c.loop-at.at c.args.now c.args.self.now c.loop-at.self-inside.items.items (search (rules, arith)) c.loop-at.invariant
