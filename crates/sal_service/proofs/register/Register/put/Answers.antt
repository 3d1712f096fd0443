use Rattle.std.proofs.Common.{ap, sym, subst}
use Rattle.sal_naming.specs.declared.entry.Put.{Put}
use Rattle.sal_naming.specs.Table.{Names}
use Rattle.sal_service.specs.code.Places.{PlacesAreGood}
use Rattle.sal_service.proofs.Places.{put_good}
use Rattle.sal_service.proofs.register.Register.put.Goals as goal

pub invariant_of-self-2 : goal.invariant_of-self-2
invariant_of-self-2 c =
    subst PlacesAreGood (sym (ap (λ (x : Put × Names). x.1) c.in_ok-put.ensures.ok)) (put_good c.args.name c.args.place c.self.inside.names c.requires c.self.invariant)
