use Rattle.std.proofs.Common.{ap, ◌∙◌, arith, length}
use Rattle.sal_carriage.specs.Link.{push}
use Rattle.sal_carriage.proofs.Due.{link_pushes, mark_length}
use Rattle.sal_carriage.proofs.Views.{link_in}
use Rattle.sal_carriage.proofs.link.Link.push.Goals as goal

pub invariant_of-self : goal.invariant_of-self
invariant_of-self c = omega (arith, mark_length 32 c.args.now c.self.inside.unacknowledged, ap length c.mark_first.ensures, c.self.invariant)

pub returns : goal.returns
returns c = link_pushes c.args.now (link_in c.self.inside) c.mark_first.new.self c.mark_first.ensures ∙ ap (push c.args.now) c.self.view_is
