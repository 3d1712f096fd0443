use Rattle.std.proofs.Common.{ap, ◌∙◌}
use Rattle.sal_carriage.specs.Halves.{withdraw}
use Rattle.sal_carriage.proofs.Halves.{link_withdraws}
use Rattle.sal_carriage.proofs.Views.{link_in}
use Rattle.sal_carriage.proofs.link.Link.withdraw.Goals as goal

pub returns : goal.returns
returns c =
    link_withdraws c.args.count (link_in c.self.inside) c.keep_first.new.self c.keep_first.ensures
    ∙ ap (withdraw c.args.count) c.self.view_is
