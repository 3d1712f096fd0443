use Rattle.std.proofs.Common.{Some, is_some, sym, ap, ◌∙◌, true≢false}
use Rattle.std.specs.FinMap as fm
use Rattle.sal_value.specs.Table.{write}
use Rattle.sal_entries.proofs.Keys.{got, changed}
use Rattle.sal_entries.proofs.entries.Entries.put.Goals as goal

pub returns-in_default : goal.returns-in_default
returns-in_default g c =
    let none = c.in_default.ensures.value ∙ got g.K.Keyed.words g.K.Ord.cmp g.met.K.Keyed.by_words c.args.key.now c.self.inside.entries.entries ∙ ap (λ t. fm.get t (g.K.Keyed.words c.args.key.now)) c.self.view_is in
    absurd (true≢false (sym c.requires ∙ ap is_some (sym none)))

pub returns : goal.returns
returns g c =
    let k = g.K.Keyed.words c.args.key.now in
    changed g.K.Keyed.words g.K.Ord.cmp g.met.K.Keyed.by_words c.args.key.now c.replace.new.place c.in-Some.entry.now c.self.inside.entries.entries (c.get_mut.follows.lender c.replace.new.place).entries (sym c.in-Some.ensures.value) (c.get_mut.follows.holds c.replace.new.place).0
    ∙ ap (λ t. write t k (Some c.replace.new.place)) c.self.view_is
    ∙ ap (λ o. write c.args.self.now k (Some o)) c.replace.ensures
