use Rattle.sal_desk.proofs.Keeping.{has_name}
use Rattle.sal_desk.proofs.residents.Residents.get.Goals as goal

pub returns-clause-named : goal.returns-clause-named
returns-clause-named c = has_name c.self.inside.entries c.args.name.now c.get.result c.get.ensures c.self.invariant
