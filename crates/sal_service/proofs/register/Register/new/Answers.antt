use Rattle.std.proofs.Common.{sym, subst}
use Rattle.sal_service.specs.code.Places.{PlacesAreGood}
use Rattle.sal_service.proofs.Places.{empty_good}
use Rattle.sal_service.proofs.register.Register.new.Goals as goal

pub invariant_of-result : goal.invariant_of-result
invariant_of-result c = subst PlacesAreGood (sym c.new.ensures) empty_good
