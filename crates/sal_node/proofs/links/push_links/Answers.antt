use Rattle.std.proofs.Common.{◌≡◌, List, ◌++◌, sym, ap, ◌∙◌, rules, arith}
use Rattle.sal_carriage.specs.Link.{Link}
use Rattle.sal_node.proofs.Making.{left_one, left_none}
use Rattle.sal_node.proofs.links.push_links.Goals as goal

pub loop-at-preserved : goal.loop-at-preserved
loop-at-preserved c =
    left_one c.args.program c.args.me c.args.first c.args.count c.loop-at.at c.loop-at.links.items c.push_link.new.links.items _ (search (rules, arith)) (search rules) c.loop-at.invariant

pub returns : goal.returns
returns c = left_none c.args.program c.args.me c.args.first c.args.count c.loop-at.at c.loop-at.links.items _ (search (rules, arith)) c.loop-at.invariant
