use Rattle.std.proofs.Common.{ap, ◌∙◌}
use Rattle.sal_value.specs.Order.{uan_key}
use Rattle.sal_value.proofs.Entries.{got}
use Rattle.sal_move.specs.Places.{Places, place_of}
use Rattle.sal_move.proofs.places.Whereabouts.known.Goals as goal

pub returns : goal.returns
returns c =
    c.get.ensures.value ∙ got uan_key c.args.name.now c.self.inside.places.entries ∙ ap (λ (t : Places). place_of c.args.name.now t) c.self.view_is
