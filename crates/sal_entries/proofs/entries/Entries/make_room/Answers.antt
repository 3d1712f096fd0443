use Rattle.std.proofs.Common.{sym, ◌∙◌}
use Rattle.sal_entries.proofs.Laws.{room_there, room_made}
use Rattle.sal_entries.proofs.entries.Entries.make_room.Goals as goal

pub returns-then-contains-clause-ok : goal.returns-then-contains-clause-ok
returns-then-contains-clause-ok g c = room_there c.args.self.now (g.K.Keyed.words c.args.key) (sym c.contains.ensures ∙ c.if-contains.true)

pub returns-clause-ok : goal.returns-clause-ok
returns-clause-ok g c = c.in_ok-set.ensures.ok ∙ room_made c.args.self.now (g.K.Keyed.words c.args.key) (sym c.contains.ensures ∙ c.if-contains.false)
