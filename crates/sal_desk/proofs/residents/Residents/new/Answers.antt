use Rattle.std.proofs.Common.{sym, subst}
use Rattle.sal_desk.specs.code.Keyed.{AreKeyed}
use Rattle.sal_desk.proofs.Keeping.{empty_keyed}
use Rattle.sal_desk.proofs.residents.Residents.new.Goals as goal

pub invariant_of-result : goal.invariant_of-result
invariant_of-result c = subst AreKeyed (sym c.new.ensures) empty_keyed
