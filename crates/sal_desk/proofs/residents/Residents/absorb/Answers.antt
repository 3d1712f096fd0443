use Rattle.sal_desk.proofs.Keeping.{changed_keyed}
use Rattle.sal_desk.proofs.residents.Residents.absorb.Goals as goal

pub invariant_of-self : goal.invariant_of-self
invariant_of-self c = changed_keyed c.changes.inside.entries c.self.inside.entries c.absorb.new.self c.absorb.ensures c.changes.invariant c.self.invariant
