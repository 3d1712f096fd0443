use Rattle.sal_desk.proofs.Keeping.{same_keyed}
use Rattle.sal_desk.proofs.residents.Residents.make_room_for.Goals as goal

pub invariant_of-self : goal.invariant_of-self
invariant_of-self c = same_keyed c.self.inside.entries c.make_room_for.new.self c.make_room_for.ensures.values c.self.invariant
