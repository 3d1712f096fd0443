use Rattle.std.proofs.Common.{◌≡◌, rules, length}
use Rattle.sal_node.specs.Links.{new_links}
use Rattle.sal_node.proofs.Making.{new_is}
use Rattle.sal_node.proofs.links.Links.new.Goals as goal

pub returns : goal.returns
unfolding new_links
returns c =
    new_is c.args.program c.args.me (length c.args.plan.now.theatres) (length c.args.plan.now.names) c.new-items.result.items c.push_links.new.links.items c.push_links-2.new.links.items
    (search rules) (search rules) (search rules)
