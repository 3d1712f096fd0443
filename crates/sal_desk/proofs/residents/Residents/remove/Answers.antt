use Rattle.std.proofs.Common.{None}
use Rattle.sal_source.specs.Keys.{name_key}
use Rattle.sal_desk.proofs.Keeping.{set_keyed}
use Rattle.sal_desk.proofs.residents.Residents.remove.Goals as goal

pub invariant_of-self : goal.invariant_of-self
invariant_of-self c =
    set_keyed c.self.inside.entries c.set.new.self (name_key c.args.name) None c.set.result c.set.ensures.ok c.set.ensures.err tt c.self.invariant
