use Rattle.sal_entries.proofs.Keys.{pops}
use Rattle.sal_entries.proofs.entries.Entries.pop_first.Goals as goal

pub returns-clause-first : goal.returns-clause-first
returns-clause-first g c =
    pops g.K.Keyed.words g.K.Ord.cmp g.met.K.Keyed.by_words c.pop_first.result c.self.inside.entries.entries c.pop_first.new.self.entries c.args.self.now
    c.pop_first.ensures.removal c.pop_first.ensures.all_above c.pop_first.ensures.ordered c.self.view_is
