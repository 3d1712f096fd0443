use Rattle.std.proofs.Common.{ap, sym, subst}
use Rattle.sal_naming.specs.declared.entry.Updated.{Updated}
use Rattle.sal_naming.specs.Table.{Names}
use Rattle.sal_service.specs.code.Places.{PlacesAreGood}
use Rattle.sal_service.proofs.Places.{update_good}
use Rattle.sal_service.proofs.register.Register.update.Goals as goal

pub invariant_of-self : goal.invariant_of-self
invariant_of-self c =
    subst PlacesAreGood (sym (ap (λ (x : Updated × Names). x.1) c.update.ensures)) (update_good c.args.name.now c.args.place c.args.moves c.self.inside.names c.requires c.self.invariant)
