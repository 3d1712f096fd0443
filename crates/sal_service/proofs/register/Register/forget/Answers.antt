use Rattle.std.proofs.Common.{sym, subst}
use Rattle.sal_service.specs.code.Places.{PlacesAreGood}
use Rattle.sal_service.proofs.Places.{forget_good}
use Rattle.sal_service.proofs.register.Register.forget.Goals as goal

pub invariant_of-self : goal.invariant_of-self
invariant_of-self c = subst PlacesAreGood (sym c.forget.ensures) (forget_good c.args.name.now c.self.inside.names c.self.invariant)
