use Rattle.std.proofs.Common.{◌≡◌, true, sym, ap, subst, ◌∙◌, rules}
use Rattle.sal_carriage.specs.Link.{Link, tells_more}
use Rattle.sal_carriage.specs.Halves.{newly_acknowledged}
use Rattle.sal_carriage.proofs.Halves.{none_new, some_new}
use Rattle.sal_carriage.proofs.Views.{link_in}
use Rattle.sal_carriage.proofs.link.Link.newly_acknowledged.Goals as goal

pub returns-then-not-tells_more : goal.returns-then-not-tells_more
returns-then-not-tells_more c = none_new c.args.wanted c.args.self.now (search rules)

pub returns : goal.returns
returns c =
    let more : tells_more c.args.wanted c.args.self.now ≡ true = search rules in
    some_new c.args.wanted (link_in c.self.inside) (subst (λ (l : Link). tells_more c.args.wanted l ≡ true) (sym c.self.view_is) more)
    ∙ ap (newly_acknowledged c.args.wanted) c.self.view_is
