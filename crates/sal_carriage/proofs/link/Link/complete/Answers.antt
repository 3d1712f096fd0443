use Rattle.std.proofs.Common.{ap, ◌∙◌}
use Rattle.sal_carriage.specs.Halves.{complete}
use Rattle.sal_carriage.proofs.Halves.{link_completes}
use Rattle.sal_carriage.proofs.Views.{link_in}
use Rattle.sal_carriage.proofs.link.Link.complete.Goals as goal

pub returns : goal.returns
returns c =
    link_completes c.args.acknowledges (link_in c.self.inside) c.drop_first.new.self c.new.result c.drop_first.ensures c.new.ensures
    ∙ ap (complete c.args.acknowledges) c.self.view_is
