use Rattle.std.proofs.Common.{ap, sym, subst}
use Rattle.sal_naming.specs.declared.entry.Deleted.{Deleted}
use Rattle.sal_naming.specs.Table.{Names}
use Rattle.sal_service.specs.code.Places.{PlacesAreGood}
use Rattle.sal_service.proofs.Places.{delete_good}
use Rattle.sal_service.proofs.register.Register.delete.Goals as goal

pub invariant_of-self : goal.invariant_of-self
invariant_of-self c = subst PlacesAreGood (sym (ap (λ (x : Deleted × Names). x.1) c.delete.ensures)) (delete_good c.args.name.now c.self.inside.names c.self.invariant)
